use Rattle.std.proofs.Common.{◌≡◌, ℕ, Bool, true, false, List, Some, None, if◌then◌else◌, refl, sym, ◌∙◌}
use Rattle.notes_read.proofs.words.without_end.Goals as goal

passed : (b : Bool) (x t : List ℕ) → None ≡ (if b then Some x else None) → (if b then x else t) ≡ t
passed true x t e = cc
passed false x t e = refl

pub returns : goal.returns
returns c =
    let one = rw (c.in_default.is, c.skip_white-text.ensures) at c.in_ok-shorter.ensures in
    let two = rw (c.in_default-2.is, c.skip_white-text.ensures) at c.in_ok-shorter-2.ensures in
    let three = rw (c.in_default-3.is, c.skip_white-text.ensures) at c.in_ok-shorter-3.ensures in
    c.in_ok-of.ensures ∙ sym (passed _ _ _ one ∙ passed _ _ _ two ∙ passed _ _ _ three)
