-- What a module exports is such as the program holds.
use Rattle.std.proofs.Common.{◌≡◌, ◌&&◌, Bool, true, List, [], ◌∷◌, Some, arith, bytes_eq, codes, refl}
use Rattle.std.proofs.lemmas.Bool.{and_parts}
use Rattle.std.proofs.lemmas.Str.{IsUtf8-append}
use Rattle.code_spec.specs.Code.{Name}
use Rattle.star_spec.proofs.Keeping.{IfFound, found_if}
use Rattle.star_spec.proofs.TextsKeep.{all_low, byte_utf8, low_utf8}
use Rattle.star_spec.specs.Held.{HeldFields, HeldValue}
use Rattle.value_spec.specs.Values.{Value}
use Rattle.module_spec.specs.Modules.{a_module, calls_of, module_in, modules}

-- names of ASCII
abbrev are_low : List Name → Bool
are_low [] = true
are_low (x ∷ xs) = all_low x && are_low xs

calls_held : (of : Name) (xs : List Name) → all_low of ≡ true → are_low xs ≡ true → HeldFields (calls_of of xs)
calls_held of [] e f = tt
calls_held of (x ∷ xs) e f =
    let parts = and_parts (all_low x) (are_low xs) f in
    let name = low_utf8 x parts.0 in
    (name, (IsUtf8-append of (46 ∷ x) (low_utf8 of e) (byte_utf8 46 x (omega arith) name), tt), calls_held of xs e parts.1)

one_held : (of : Name) (xs : List Name) → all_low of ≡ true → are_low xs ≡ true → HeldValue (a_module of xs).1
one_held of xs e f = (low_utf8 of e, calls_held of xs e f)

abbrev pub IsHeldModule : Name × Value → Type 0
IsHeldModule m = HeldValue m.1

-- a table of such
record EachHeld (ms : List (Name × Value)) : Type 0 where
  found : (x : Name) → IfFound IsHeldModule (module_in x ms)

none_held : EachHeld []
none_held = record { found = λ x. tt }

-- one in front of a table
infixr 4 ◌also◌
◌also◌ : {m : Name × Value} {ms : List (Name × Value)} → IsHeldModule m → EachHeld ms → EachHeld (m ∷ ms)
◌also◌ {m = m} {ms = ms} h k = record { found = λ x. found_if IsHeldModule (bytes_eq x m.0) (Some m) (module_in x ms) h (k.found x) }

all_held : EachHeld modules
all_held =
    one_held (codes "struct") (codes "make" ∷ codes "encode" ∷ codes "decode" ∷ []) refl refl also
    one_held (codes "assert") (codes "fail" ∷ codes "equals" ∷ codes "try_to" ∷ codes "min" ∷ codes "max" ∷ codes "min_len" ∷ codes "max_len" ∷ codes "not_null" ∷ []) refl refl also
    one_held (codes "template") (codes "replace" ∷ []) refl refl also
    one_held (codes "json") (codes "encode" ∷ codes "decode" ∷ []) refl refl also
    one_held (codes "yaml") (codes "encode" ∷ codes "decode" ∷ []) refl refl also
    one_held (codes "base64") (codes "encode" ∷ codes "decode" ∷ []) refl refl also
    one_held (codes "sha256") (codes "sum" ∷ []) refl refl also
    one_held (codes "md5") (codes "sum" ∷ []) refl refl also
    none_held

pub module_held : (x : Name) → IfFound IsHeldModule (module_in x modules)
module_held x = all_held.found x
