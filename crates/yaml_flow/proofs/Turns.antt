-- Members, turn by turn.
use Rattle.std.proofs.Common.{◌≡◌, ℕ, zero, suc, ◌-◌, ◌≤◌, Bool, true, false, List, Ok, Err, refl, arith}
use Rattle.ytt_base.specs.declared.fault.Fault.{Fault}
use Rattle.ytt_base.specs.declared.fault.Place.{Place}
use Rattle.ytt_base.specs.Outcomes.{Outcome}
use Rattle.yaml_spec.specs.Flow.{Node, size}
use Rattle.yaml_spec.specs.Noted.{Comment, no_items}
use Rattle.yaml_spec.specs.Quotes.{Cursor}
use Rattle.yaml_flow.specs.Members.{members, some_item, Turn, turn}
use Rattle.yaml_flow.proofs.Collected.{with_found}

module _ (p : Place) (read : List Comment → Cursor → Outcome Node) (is_map : Bool) where
  pub members-stop : (n : ℕ) (cs : List Comment) (c : Cursor) (f : Fault) → size c ≤ n → turn p read is_map cs c ≡ Err f → members p read is_map n cs c ≡ Err f
  unfolding members
  members-stop zero cs c f h e = absurd (omega arith)
  members-stop (suc n) cs c f h e = rw e refl

  pub members-last : (n : ℕ) (cs : List Comment) (c : Cursor) (t : Turn) → size c ≤ n → turn p read is_map cs c ≡ Ok t → t.is_over ≡ true
      → members p read is_map n cs c ≡ Ok (some_item t.found no_items, t.comments, t.here)
  unfolding members
  members-last zero cs c t h e over = absurd (omega arith)
  members-last (suc n) cs c t h e over = rw (e, over) refl

  pub members-more : (n : ℕ) (cs : List Comment) (c : Cursor) (t : Turn) → size c ≤ n → turn p read is_map cs c ≡ Ok t → t.is_over ≡ false
      → members p read is_map n cs c ≡ with_found t.found (members p read is_map (n - 1) t.comments t.here)
  unfolding members
  members-more zero cs c t h e over = absurd (omega arith)
  members-more (suc n) cs c t h e over = let less : suc n - 1 ≡ n = omega arith in rw (less, e, over) refl
