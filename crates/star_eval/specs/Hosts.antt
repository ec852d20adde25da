-- What a host is asked by the machine, and what its calls give.
use Rattle.std.specs.Prelude.{◌≡◌, ℕ, Bool, true, false, [], get_or, Result, Ok, Err, IfOk}
use Rattle.ytt_base.specs.declared.fault.Fault.{Fault}
use Rattle.ytt_base.specs.declared.fault.Place.{Place}
use Rattle.ytt_base.specs.declared.fault.Stop.{Stop}
use Rattle.ytt_base.specs.declared.fault.Stop.TheVariants as stop
use Rattle.code_spec.specs.Code.{Name}
use Rattle.star_spec.specs.Hosts.{Answers, with_host}
use Rattle.star_steps.specs.Replies.{OwnsGot, OwnsReply, got_of, reply_of}
use Rattle.star_values.specs.Owns.{Grows, Owns, OwnsArguments}
use Rattle.star_values.specs.View.{View, arguments_in, native_in, value_of}
use Rattle.star_values.specs.declared.value.CallArgs.{CallArgs}
use Rattle.star_values.specs.declared.value.Ref.{Ref}
use Rattle.star_values.specs.declared.value.Reply as held
use Rattle.star_values.specs.declared.value.Value.{Value}
use Rattle.star_values.specs.declared.value.Value.TheVariants as value
use Rattle.value_spec.specs.Outcomes.{Question, called, resumed}
use Rattle.value_spec.specs.Values as plain
use Rattle.value_spec.specs.Values.{Values, host_native, no_values, none_value}
use Rattle.star_eval.specs.Meets.{UnlessMemory, arena_of, state_of}
use Rattle.star_eval.specs.declared.frame.Asking.{Asking}
use Rattle.star_eval.specs.declared.frame.Control.{Control}
use Rattle.star_eval.specs.declared.frame.Control.TheVariants as control
use Rattle.star_eval.specs.declared.frame.Question as held_question
use Rattle.star_eval.specs.declared.frame.Question.TheVariants as question
use Rattle.star_eval.specs.declared.session.Session.{Session}

-- ---- natives of a host

abbrev pub native_at : View → Ref → plain.Native
native_at a r = native_in (get_or a.held r.at none_value)

-- a host answers it
abbrev pub is_hosted : plain.Native → Bool
is_hosted (host_native x held) = true
is_hosted _ = false

abbrev pub host_name : plain.Native → Name
host_name (host_native x held) = x
host_name _ = []

abbrev pub host_held : plain.Native → Values
host_held (host_native x held) = held
host_held _ = no_values

abbrev pub OwnsHosted : View → Ref → Type 0
OwnsHosted a r = Owns a (value.Native r) × (is_hosted (native_at a r) ≡ true)

-- ---- questions

-- a call of a native with these arguments
abbrev pub call_of : View → Ref → CallArgs → Place → Question
call_of a r args p = called p (host_name (native_at a r)) (host_held (native_at a r)) (arguments_in a.held args)

-- the call that a native asked for with this tag has come to this
abbrev pub resume_of : View → Ref → (tag : ℕ) → Result Value Fault → Place → Question
resume_of a r tag got p = resumed p (host_name (native_at a r)) (host_held (native_at a r)) tag (got_of a got)

-- what is to be done where such a call has come to this
abbrev pub answer_of : Result Value Fault → Control
answer_of (Ok v) = control.Gave v
answer_of (Err e) = control.Failed e

abbrev pub question_of : View → Asking → held_question.Question → Question
question_of a k (question.Called args) = call_of a k.native args k.place
question_of a k (question.Resumed tag got) = resume_of a k.native tag got k.place

abbrev pub OwnsQuestion : View → held_question.Question → Type 0
OwnsQuestion a (question.Called args) = OwnsArguments a args
OwnsQuestion a (question.Resumed tag got) = OwnsGot a got

-- ---- answers

-- the answer to a question and the state that is left; want of memory says nothing
abbrev pub Replies : {H : Type 0} → Answers H → Question → Result held.Reply Stop → (after before : Session) → (now then : H) → Type 0
Replies answers q (Ok r) after before now then = answers q (with_host then (state_of before)) ≡ (Ok (reply_of (arena_of after) r), with_host now (state_of after))
Replies answers q (Err (stop.Fault f)) after before now then = answers q (with_host then (state_of before)) ≡ (Err f, with_host now (state_of after))
Replies answers q (Err stop.Memory) after before now then = Unit {0}

-- What a host's call gives and leaves is its answer, by the question and the state before. What is given is owned, and what the session
-- held before stays what it was.
pub record HostGives {H : Type 0} (answers : Answers H) (q : Question) (result : Result held.Reply Stop) (after before : Session) (now then : H) : Type 0 where
  pub meaning : Replies answers q result after before now then
  pub owned : IfOk result (OwnsReply (arena_of after))
  pub grows : UnlessMemory result (Grows (arena_of before) (arena_of after))
