-- The tables keep their laws, by computing.
use Rattle.std.proofs.Common.{◌≡◌, List, [], ◌∷◌, Some, None, refl, arith}
use Rattle.std.specs.Prelude.{Bool, true, false, nat_eq, ◌&&◌, if◌then◌else◌}
use Rattle.ll.specs.declared.shapes.Shape.{Shape}
use Rattle.ll.specs.Shapes.{apply}
use Rattle.ll.proofs.Laws.{Ahead, Consistent, Ended}
use Rattle.ll.proofs.Check.{nth, every, Listed, same_place, one_place, all_chosen, chosen, followed, has_head, headed, is_ranked, ranked, implies, implied, every_at}
use Rattle.star_grammar.specs.declared.part.Part.{Part}
use Rattle.star_grammar.specs.declared.table.Action.{Action}
use Rattle.star_grammar.specs.declared.table.Action.TheVariants as action
use Rattle.star_grammar.specs.declared.start.Start.{Start}
use Rattle.star_grammar.specs.declared.start.Start.TheVariants as start
use Rattle.star_grammar.specs.declared.table.Choice.{Choice}
use Rattle.star_grammar.specs.declared.table.Choice.TheVariants as choice
use Rattle.star_grammar.specs.declared.table.Kind.{Kind}
use Rattle.star_grammar.specs.declared.table.Kind.TheVariants as kind
use Rattle.star_grammar.specs.declared.table.Rule.{Rule}
use Rattle.star_grammar.specs.declared.table.Rule.TheVariants as rule
use Rattle.star_grammar.specs.declared.table.Terminal.TheVariants as terminal
use Rattle.star_grammar.specs.Effects.{takes, place, effect_of, is_keep, silent}
use Rattle.star_grammar.specs.Language.{language, Value, kind_of_token}
use Rattle.star_grammar.specs.Machine.{tables, solid}
use Rattle.star_grammar.specs.Predict.{predict}
use Rattle.star_grammar.specs.Reading.{rule_of, entry_of}
use Rattle.star_grammar.specs.Table.{action_of}
use Rattle.star_grammar.specs.Trees.{built}
use Rattle.star_grammar.proofs.Numbers.{first, follow, kinds, choices, rules}
use Rattle.star_grammar.proofs.Places.{choice_place, rule_place}

abbrev among : List Kind → Kind → Bool
among [] k = false
among (x ∷ xs) k = if nat_eq (place x) (place k) then true else among xs k

abbrev pub looks : Ahead language tables
looks = record {
  takes = takes;
  may = λ r k. if among (first r) k then true else if solid r then false else among (follow r) k;
  follow = λ r k. among (follow r) k;
}

pub kind_found : (k : Kind) → nth kinds (place k) ≡ Some k
kind_found kind.Name = refl
kind_found k = refl

pub choice_found : (c : Choice) → nth choices (choice_place c) ≡ Some c
choice_found choice.Top = refl
choice_found c = refl

rule_found : (r : Rule) → nth rules (rule_place r) ≡ Some r
rule_found rule.Top = refl
rule_found r = refl

unfoldable pub all_kinds : Listed Kind
all_kinds = record { all = kinds; place = place; found = kind_found }

unfoldable pub all_choices : Listed Choice
all_choices = record { all = choices; place = choice_place; found = choice_found }

all_rules : Listed Rule
all_rules = record { all = rules; place = rule_place; found = rule_found }

are_chosen : all_chosen language tables looks (same_place all_choices) choices kinds ≡ true
unfolding all_choices
are_chosen = refl

are_headed : every (λ r. every (λ k. has_head language tables all_rules r (Some (predict r k))) kinds) rules ≡ true
unfolding all_rules
are_headed = refl

are_ranked : every (is_ranked language tables) choices ≡ true
are_ranked = refl

stood : (b c : Bool) (v w : Value) → (if b && c then Some v else None) ≡ Some w → b ≡ true
stood true c v w e = refl
stood false c v w e = absurd (grind arith)

-- what makes nothing leaves everything as it is
quiet_action : (a : Action) (ps : List Part) (xs : List Shape) → is_keep a ≡ true → (built a ps ≡ ps) × (apply (effect_of a) xs ≡ xs)
quiet_action action.Keep ps xs e = (refl, refl)
quiet_action action.Floor ps xs e = absurd (grind arith)
quiet_action (action.Open a) ps xs e = absurd (grind arith)
quiet_action (action.Add a) ps xs e = absurd (grind arith)
quiet_action (action.Make a) ps xs e = absurd (grind arith)
quiet_action (action.State a) ps xs e = absurd (grind arith)

pub silent_shapes : (c : Choice) (xs : List Shape) → silent c ≡ true → apply (effect_of (action_of c)) xs ≡ xs
silent_shapes c xs e = (quiet_action (action_of c) [] xs e).1

quiet : (c : Choice) (v : Value) → silent c ≡ true → language.finish c v ≡ v
quiet c v e =
    let q = quiet_action (action_of c) v.parts v.shapes e in
    rw (q.0, q.1) refl

pub consistent : Consistent language tables looks
unfolding all_choices all_kinds all_rules
consistent = record {
  taken = λ a k v w e. stood (takes a (kind_of_token k.kind)) _ _ w e;
  chosen = chosen language tables looks (same_place all_choices) all_choices all_kinds (one_place all_choices) are_chosen;
  followed = followed language tables looks (same_place all_choices) all_choices all_kinds (one_place all_choices) are_chosen;
  quiet = quiet;
  headed = headed language tables all_rules all_kinds are_headed;
  ranked = ranked language tables all_choices are_ranked;
}

-- the end of the text may stand behind each rule that a reader reads
are_ended : (s : Start) → every (λ k. implies (takes (terminal.Passed kind.TextEnd) k) (among (follow (rule_of s)) k)) kinds ≡ true
are_ended start.Expr = refl
are_ended s = refl

pub ended : (s : Start) → Ended language tables looks (entry_of s)
unfolding all_kinds
ended s k e =
    let P : Kind → Bool = λ k. implies (takes (terminal.Passed kind.TextEnd) k) (among (follow (rule_of s)) k) in
    implied (takes (terminal.Passed kind.TextEnd) k) (among (follow (rule_of s)) k) (every_at all_kinds P (are_ended s) k) e
