-- What natives that aren't the language's own reply over an arena, and how that stands to what the definitions say of a reply.
use Rattle.std.specs.Prelude.{ℕ, Result, Ok, Err, IfOk}
use Rattle.ytt_base.specs.declared.fault.Fault.{Fault}
use Rattle.ytt_base.specs.declared.fault.Stop.{Stop}
use Rattle.star_values.specs.Owns.{Grows, Owns, OwnsAll}
use Rattle.star_values.specs.View.{View, value_of, values_of}
use Rattle.star_values.specs.declared.value.Reply as held
use Rattle.star_values.specs.declared.value.Reply.TheVariants as reply
use Rattle.star_values.specs.declared.value.Value.{Value}
use Rattle.value_spec.specs.Outcomes.{Ending, Reply, answer, call_then}
use Rattle.value_spec.specs.Values as plain
use Rattle.value_spec.specs.Values.{arguments, no_fields, values_from}
use Rattle.star_steps.specs.Meets.{Meets, state_in}

-- ---- what comes of a call that a native asked for

-- what the call gave, or the fault that it ended with
abbrev pub got_of : View → Result Value Fault → Result plain.Value Fault
got_of a (Ok v) = Ok (value_of a v)
got_of a (Err e) = Err e

abbrev pub OwnsGot : View → Result Value Fault → Type 0
OwnsGot a got = IfOk got (Owns a)

-- ---- replies

abbrev pub reply_of : View → held.Reply → Reply
reply_of a (reply.Value v) = answer (value_of a v)
reply_of a (reply.CallThen f args tag) = call_then (value_of a f) (arguments (values_from (values_of a args)) no_fields) tag

abbrev pub OwnsReply : View → held.Reply → Type 0
OwnsReply a (reply.Value v) = Owns a v
OwnsReply a (reply.CallThen f args tag) = Owns a f × OwnsAll a args

-- The computation ends so: its reply is owned by the arena that is left, which has grown from the one that was.
pub record GivesReply (ending : Ending (Unit {0}) Reply) (result : Result held.Reply Stop) (a b : View) (steps : ℕ) : Type 0 where
  pub meaning : Meets (reply_of b) result (state_in b steps) ending
  pub owns : IfOk result (OwnsReply b)
  pub grows : Grows a b
