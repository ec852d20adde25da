use Rattle.std.proofs.Common.{◌≡◌, List, [], ◌∷◌, ◌++◌, refl, ap, ◌∙◌, sym}
use Rattle.star_grammar.specs.Reading.{header_in, header_of}
use Rattle.star_tree.specs.declared.code.Stmt.{Stmt}
use Rattle.star_build.proofs.trees.header_in.Goals as goal

of_last : (xs : List Stmt) (x : Stmt) → header_in (xs ++ x ∷ []) ≡ header_of x
of_last [] x = refl
of_last (y ∷ []) x = refl
of_last (y ∷ z ∷ xs) x = of_last (z ∷ xs) x

pub returns-in-Some : goal.returns-in-Some
returns-in-Some c = c.header_of.ensures ∙ sym (ap header_in c.in-Some.ensures ∙ of_last c.pop.new.self c.in-Some.stmt)
