-- A note's name and its arguments.
use Rattle.std.proofs.Common.{◌≡◌, ℕ, ◌+◌, List, [], length, Option, Some, None, MatchOption, ◌==◌, arith, Bor}
use Rattle.std.specs.List.{position_or_len}
use Rattle.std.proofs.lemmas.List.{drop_all, take_all}
use Rattle.std.proofs.lemmas.Str.Pattern.{IsSplitOnceResult, split_once_first}
use Rattle.template_spec.specs.Comments.{name_in, arguments_in}

pub splits : (bs : List ℕ) (r : Option (Bor (List ℕ) × Bor (List ℕ))) → IsSplitOnceResult 32 bs r
    → MatchOption r ((name_in bs ≡ bs) × (arguments_in bs ≡ [])) (λ x. (x.0.now ≡ name_in bs) × (x.1.now ≡ arguments_in bs))
splits bs None h =
    let e : position_or_len (λ b. b == 32) bs ≡ length bs = split_once_first 32 bs None h (omega arith) in
    (take_all (position_or_len (λ b. b == 32) bs) bs (omega arith), drop_all (position_or_len (λ b. b == 32) bs + 1) bs (omega arith))
splits bs (Some x) h =
    let p = split_once_first 32 bs (Some x) h (omega arith) in
    (p.1, p.2)
