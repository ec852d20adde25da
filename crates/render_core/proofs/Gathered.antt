-- Documents of one file after another, gathered in one list.
use Rattle.std.proofs.Common.{◌≡◌, ◌∙◌, ℕ, suc, List, [], ◌∷◌, ◌++◌, Ok, Err, refl, ap}
use Rattle.ytt_base.specs.Outcomes.{Gives}
use Rattle.ytt_base.specs.Trees.{Trees, no_trees, tree}
use Rattle.ytt_base.specs.View.{tree_of, trees_of}
use Rattle.ytt_base.specs.declared.fault.Stop.{Stop}
use Rattle.ytt_base.specs.declared.fault.Stop.TheVariants as stop
use Rattle.ytt_base.specs.declared.tree.Tree.{Tree}
use Rattle.file_load.specs.declared.given.Given.{Given}
use Rattle.star_eval.specs.declared.session.Session.{Session}
use Rattle.value_spec.specs.Outcomes.{Ending, State, asks, bad, done, give, then_do, ◌>>=◌}
use Rattle.world_spec.specs.Parts.{Files, World, outcome_of, trees_before}
use Rattle.render_core.specs.Runs.{EndsIn, all_documents, output_documents}
use Rattle.render_core.specs.declared.parts.Output.{Output}

-- how it ends where these documents stand in front
abbrev pub put_before : Trees → Ending World Trees → Ending World Trees
put_before ts e = then_do e (λ more. give (trees_before ts more))

pub put_nothing : (e : Ending World Trees) → outcome_of e ≡ outcome_of (put_before no_trees e)
put_nothing (done ts s) = refl
put_nothing (bad f s) = refl
put_nothing (asks q s k) = refl

both_before : (ts us : List Tree) (more : Trees) → trees_before (trees_of ts) (trees_before (trees_of us) more) ≡ trees_before (trees_of (ts ++ us)) more
both_before [] us more = refl
both_before (t ∷ ts) us more = ap (λ (vs : Trees). tree (tree_of t) vs) (both_before ts us more)

put_both : (ts us : List Tree) (e : Ending World Trees) → outcome_of (put_before (trees_of ts) (put_before (trees_of us) e)) ≡ outcome_of (put_before (trees_of (ts ++ us)) e)
put_both ts us (done more s) = ap (λ (vs : Trees). Ok vs) (both_before ts us more)
put_both ts us (bad f s) = refl
put_both ts us (asks q s k) = refl

pub nothing_behind : (ts : Trees) → trees_before ts no_trees ≡ ts
nothing_behind no_trees = refl
nothing_behind (tree t ts) = ap (λ (vs : Trees). tree t vs) (nothing_behind ts)

module _ (files : Files) (n : ℕ) (o : Output) (os : List Output) (old new : State World) (ts : List Tree) where
  -- what is left of the run, behind the documents that there are
  abbrev rest_from : Ending World Trees → Ending World Trees
  rest_from e = put_before (trees_of ts) (then_do e (λ us. all_documents files (suc n) os >>= λ more. give (trees_before us more)))

  -- one file more
  pub turn : (us : List Tree) → output_documents files n o old ≡ done (trees_of us) new →
      outcome_of (put_before (trees_of ts) (all_documents files n (o ∷ os) old)) ≡ outcome_of (put_before (trees_of (ts ++ us)) (all_documents files (suc n) os new))
  turn us h = ap (λ (e : Ending World Trees). outcome_of (rest_from e)) h ∙ put_both ts us (all_documents files (suc n) os new)

  -- one that stops
  pub stopped : (s : Stop) (session : Session) (gs : List Given) → EndsIn session gs (Err s) (output_documents files n o old) →
      Gives trees_of (Err s) (outcome_of (put_before (trees_of ts) (all_documents files n (o ∷ os) old)))
  stopped (stop.Fault f) session gs h = ap (λ (e : Ending World Trees). outcome_of (rest_from e)) h.1
  stopped stop.Memory session gs h = tt
