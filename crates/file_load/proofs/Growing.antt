-- What runs stand for stays the same as an arena grows.
use Rattle.std.proofs.Common.{◌≡◌, List, [], ◌∷◌, map as each, reverse, refl, ap}
use Rattle.star_blocks.specs.Nested.{ops_of}
use Rattle.star_eval.specs.FileRun.{block_of}
use Rattle.star_eval.specs.Finishes.{globals_of}
use Rattle.star_tree.specs.Whole.{loaded_names_of}
use Rattle.star_values.proofs.Growing.{owns_kept, value_kept}
use Rattle.star_values.specs.Owns.{Grows, OwnsFields}
use Rattle.star_values.specs.View.{View}
use Rattle.star_values.specs.declared.value.NamedValue.{NamedValue}
use Rattle.file_load.specs.Gave.{OwnsGiven, given_in, one_given}
use Rattle.file_load.specs.Seen.{OwnsRun, OwnsWaiting, all_waiting, run_in, waiting_in}
use Rattle.file_load.specs.Turns.{Sound}
use Rattle.file_load.specs.declared.given.Given.{Given}
use Rattle.file_load.specs.declared.programs.Program.{Program}
use Rattle.file_load.specs.declared.waiting.Run.{Run}
use Rattle.file_load.specs.declared.waiting.Waiting.{Waiting}

module _ (a b : View) (g : Grows a b) where
  pub globals_kept : (xs : List NamedValue) → OwnsFields a xs → OwnsFields b xs × (globals_of b xs ≡ globals_of a xs)
  globals_kept [] w = (tt, refl)
  globals_kept (x ∷ xs) w =
      let more = globals_kept xs w.1 in
      ((owns_kept a b x.value g w.0, more.0), λ i. (x.name, value_kept a b x.value g w.0 i) ∷ more.1 i)

  all_given : (gs : List Given) → OwnsGiven a gs → OwnsGiven b gs × (each (one_given b) gs ≡ each (one_given a) gs)
  all_given [] w = (tt, refl)
  all_given (x ∷ gs) w =
      let first = globals_kept x.globals w.0 in
      let more = all_given gs w.1 in
      ((first.0, more.0), λ i. (x.file, first.1 i) ∷ more.1 i)

  pub given_kept : (gs : List Given) → OwnsGiven a gs → OwnsGiven b gs × (given_in b gs ≡ given_in a gs)
  given_kept gs w = let all = all_given gs w in (all.0, ap reverse all.1)

  pub run_kept : (ps : List Program) (r : Run) → OwnsRun ps a r → OwnsRun ps b r × (run_in b r ≡ run_in a r)
  run_kept ps r w =
      let got = globals_kept r.got w.got in (
        record { stands = w.stands; got = got.0 },
        λ i. record { block = block_of r.program.block.now; rest = ops_of r.program.block.now.file r.rest.now; got = got.1 i; loads = r.loads },
      )

  each_waiting : (ps : List Program) (ws : List Waiting) → OwnsWaiting ps a ws → OwnsWaiting ps b ws × (each (waiting_in b) ws ≡ each (waiting_in a) ws)
  each_waiting ps [] w = (tt, refl)
  each_waiting ps (x ∷ ws) w =
      let first = run_kept ps x.run w.0 in
      let more = each_waiting ps ws w.1 in
      ((first.0, more.0), λ i. record { run = first.1 i; place = x.place; names = loaded_names_of x.names.now; file = x.file } ∷ more.1 i)

  pub waiting_kept : (ps : List Program) (ws : List Waiting) → OwnsWaiting ps a ws → OwnsWaiting ps b ws × (all_waiting b ws ≡ all_waiting a ws)
  waiting_kept ps ws w = let all = each_waiting ps ws w in (all.0, ap reverse all.1)

  pub sound_kept : (ps : List Program) (gs : List Given) (ws : List Waiting) (r : Run) → Sound ps a gs ws r → Sound ps b gs ws r
  sound_kept ps gs ws r h = record { run = (run_kept ps r h.run).0; waiting = (waiting_kept ps ws h.waiting).0; given = (given_kept gs h.given).0 }
