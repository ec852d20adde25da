-- What is told of the first name that has no variable.
use Rattle.std.proofs.Common.{◌≡◌, ℕ, ◌+◌, ◌<◌, List, [], ◌∷◌, ◌++◌, length, drop, get_or, Option, Some, None, Result, Err, sym, ap, subst, ◌∙◌}
use Rattle.std.proofs.lemmas.List.{drop_more}
use Rattle.ytt_base.specs.declared.fault.Fault.{Fault}
use Rattle.ytt_base.specs.declared.fault.Stop.{Stop}
use Rattle.ytt_base.specs.declared.fault.Stop.TheVariants as stop
use Rattle.code_spec.specs.Code.{Name}
use Rattle.star_resolve.specs.declared.event.Event.{Event}
use Rattle.star_resolve.specs.declared.levels.Variable.{Variable}
use Rattle.star_resolve.specs.Answers.{Answer, Open, after_event, answer_here, answers, refused, refused_if}
use Rattle.star_resolve.specs.Variables.{IfFault, IfRefused}

later_refused : (o : Option Variable) (g f : Fault) (a b : Option Fault) → (a ≡ Some f → b ≡ Some f) → refused_if o g a ≡ Some f → refused_if o g b ≡ Some f
later_refused None g f a b h k = k
later_refused (Some v) g f a b h k = h k

refused_more : (here more : List Answer) (f : Fault) → refused here ≡ Some f → refused (here ++ more) ≡ Some f
refused_more [] more f h = cc
refused_more (a ∷ here) more f h = later_refused a.found _ f (refused here) (refused (here ++ more)) (refused_more here more f) h

same_refused : (e : Stop) (all here : Option Fault) → ((f : Fault) → here ≡ Some f → all ≡ Some f) → IfFault e (λ f. here ≡ Some f) → IfFault e (λ f. all ≡ Some f)
same_refused (stop.Fault f) all here h k = h f k
same_refused stop.Memory all here h k = tt

-- a refusal in a turn is that of all events
pub told_in_turn : {B : Type 0} (globals builtins : List Name) (ls : Open) (es : List Event) (j : ℕ) (e : Event) (all : Option Fault) (s : Stop) (r : Result B Stop) →
    j < length es → e ≡ get_or es j e → refused (answers globals builtins ls (drop j es)) ≡ all → r ≡ Err s →
    IfFault s (λ f. refused (answer_here globals builtins ls e) ≡ Some f) → IfRefused r (λ f. all ≡ Some f)
told_in_turn {B = B} globals builtins ls es j e all s r lt here h stopped k =
    let split : drop j es ≡ e ∷ drop (j + 1) es = drop_more es j e lt ∙ ap (λ x. x ∷ drop (j + 1) es) (sym here) in
    subst (λ (x : Result B Stop). IfRefused x (λ f. all ≡ Some f)) (sym stopped)
    (same_refused s all (refused (answer_here globals builtins ls e))
    (λ f told. sym h ∙ ap (λ l. refused (answers globals builtins ls l)) split ∙ refused_more (answer_here globals builtins ls e) (answers globals builtins (after_event e ls) (drop (j + 1) es)) f told) k)

-- a refusal is told on
pub told_on : {B : Type 0} (s : Stop) (r : Result B Stop) (a b : Option Fault) → b ≡ a → r ≡ Err s → IfFault s (λ f. a ≡ Some f) → IfRefused r (λ f. b ≡ Some f)
told_on {B = B} s r a b e stopped k =
    subst (λ (x : Result B Stop). IfRefused x (λ f. b ≡ Some f)) (sym stopped) (same_refused s b a (λ f told. e ∙ told) k)
