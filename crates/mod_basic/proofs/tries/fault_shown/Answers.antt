use Rattle.std.proofs.Common.{true, subst, sym, ◌≡◌}
use Rattle.std.proofs.lemmas.Str.{IsUtf8-string_bytes, is_utf8-from_IsUtf8}
use Rattle.std.specs.Str.{is_utf8}
use Rattle.mod_basic.proofs.tries.fault_shown.Goals as goal

pub returns-clause-utf8 : goal.returns-clause-utf8
returns-clause-utf8 c = subst (λ t. is_utf8 t ≡ true) (sym c.of_string.ensures) (is_utf8-from_IsUtf8 _ (IsUtf8-string_bytes c.if-is_empty.shown))
