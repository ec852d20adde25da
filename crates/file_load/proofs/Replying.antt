-- What natives of modules reply is what the definitions say.
use Rattle.std.proofs.Common.{◌≡◌, ◌∙◌, ℕ, true, false, bytes_eq, codes, Option, Some, None, Result, Ok, Err, if◌then◌else◌, ap, sym, subst}
use Rattle.std.proofs.lemmas.Bool.{false≢true}
use Rattle.ytt_base.specs.declared.fault.Fault.{Fault}
use Rattle.ytt_base.specs.declared.fault.FaultKind.TheVariants as kind
use Rattle.ytt_base.specs.declared.fault.Place.{Place}
use Rattle.ytt_base.specs.declared.fault.Stop.{Stop}
use Rattle.ytt_base.specs.declared.fault.Stop.TheVariants as stop
use Rattle.ytt_base.specs.Outcomes.{fault_at}
use Rattle.code_spec.specs.Code.{Name}
use Rattle.mod_basic.specs.View.{row_of as basic_row}
use Rattle.mod_basic.specs.declared.table.Basic.{Basic}
use Rattle.mod_codec.specs.View.{row_of as codec_row, value_row_of}
use Rattle.mod_codec.specs.declared.table.Codec.{Codec}
use Rattle.module_spec.specs.Answering.{answered, by_row, modules_answer, natives, question_row, row_in}
use Rattle.module_spec.specs.Asserting.{tried}
use Rattle.module_spec.specs.Rows.{Row}
use Rattle.star_eval.specs.Hosts.{HostGives, call_of, host_held, host_name, is_hosted, native_at, resume_of}
use Rattle.star_eval.specs.Meets.{Here}
use Rattle.star_eval.specs.declared.session.Session.{Session}
use Rattle.star_spec.specs.Hosts.{with_host}
use Rattle.star_steps.specs.Meets.{Gives, state_in}
use Rattle.star_steps.specs.Replies.{GivesReply, got_of}
use Rattle.star_values.proofs.Growing.{grows_same}
use Rattle.star_values.specs.Objects.{native_by}
use Rattle.star_values.specs.Owns.{OwnsOption}
use Rattle.star_values.specs.View.{View, arguments_in, native_in, option_in, value_of}
use Rattle.star_values.specs.declared.held.Answerer.{Answerer}
use Rattle.star_values.specs.declared.held.Answerer.TheVariants as answerer
use Rattle.star_values.specs.declared.value.CallArgs.{CallArgs}
use Rattle.star_values.specs.declared.value.Ref.{Ref}
use Rattle.star_values.specs.declared.value.Reply as held
use Rattle.star_values.specs.declared.value.Reply.TheVariants as reply
use Rattle.star_values.specs.declared.value.Value.{Value}
use Rattle.star_values.specs.declared.value.Value.TheVariants as value
use Rattle.value_spec.specs.Outcomes.{Ending, Question, Reply, answer, bad, fail, give, then_do}
use Rattle.value_spec.specs.Store.{option_members}
use Rattle.value_spec.specs.Values as plain
use Rattle.value_spec.specs.Values.{native_value, values_in}
use Rattle.file_load.specs.Replying.{IsNative, NamesNative, RepliesTo}
use Rattle.file_load.specs.declared.host.Native.{Native}
use Rattle.file_load.specs.declared.host.Native.TheVariants as native

-- ---- which native it is

native_parts : (by : Answerer) (x : Name) (o : Option plain.Value) (n : plain.Native) → n ≡ native_by by x o → is_hosted n ≡ true → (host_name n ≡ x) × (values_in (host_held n) ≡ option_members o)
native_parts answerer.Language x None n e h = absurd (false≢true (sym (ap is_hosted e) ∙ h))
native_parts answerer.Language x (Some v) n e h = absurd (false≢true (sym (ap is_hosted e) ∙ h))
native_parts answerer.Host x None n e h = (ap host_name e, ap (λ (m : plain.Native). values_in (host_held m)) e)
native_parts answerer.Host x (Some v) n e h = (ap host_name e, ap (λ (m : plain.Native). values_in (host_held m)) e)

module _ (a : View) (r : Ref) (hosted : is_hosted (native_at a r) ≡ true) (by : Answerer) (x : Name) (on : Option Value) (shape : value_of a (value.Native r) ≡ native_value (native_by by x (option_in a.held on))) where
  parts : (host_name (native_at a r) ≡ x) × (values_in (host_held (native_at a r)) ≡ option_members (option_in a.held on))
  parts = native_parts by x (option_in a.held on) (native_at a r) (ap native_in shape) hosted

  pub its_name : host_name (native_at a r) ≡ x
  its_name = parts.0

  pub is_native : (n : Native) → OwnsOption a on → NamesNative x on n → IsNative a r n
  is_native (native.Basic b held) owned h =
      (ap (λ (y : Name). row_in y natives) parts.0 ∙ h.0, parts.1 ∙ ap (λ (o : Option Value). option_members (option_in a.held o)) (sym h.1), subst (OwnsOption a) (sym h.1) owned)
  is_native (native.Codec c) owned h = ap (λ (y : Name). row_in y natives) parts.0 ∙ h
  is_native native.Unknown owned h = ap (λ (y : Name). row_in y natives) parts.0 ∙ h

-- ---- what it replies to a call

-- a refusal of this kind
refuses : (p : Place) (a : View) (n : ℕ) (e : Ending Here Reply) (x : Stop) → x ≡ stop.Fault (fault_at kind.ValueKind p) → e ≡ bad (fault_at kind.ValueKind p) (state_in a n) → GivesReply e (Err x) a a n
refuses p a n e x is same = subst (λ (y : Stop). GivesReply e (Err y) a a n) (sym is) (record { meaning = same; owns = tt; grows = grows_same a })

module _ (a : View) (r : Ref) (p : Place) (args : CallArgs) (n : ℕ) where
  abbrev asked : Ending Here Reply
  asked = question_row (call_of a r args p) (state_in a n)

  by_its_row : (o : Option (Row Here)) → row_in (host_name (native_at a r)) natives ≡ o → asked ≡ by_row o p (values_in (host_held (native_at a r))) (arguments_in a.held args) (state_in a n)
  unfolding question_row
  by_its_row o e = λ i. by_row (e i) p (values_in (host_held (native_at a r))) (arguments_in a.held args) (state_in a n)

  pub basic_replies : (b : Basic) (on : Option Value) (result : Result held.Reply Stop) (z : View) (m : ℕ) → IsNative a r (native.Basic b on) →
      GivesReply (basic_row b p (option_members (option_in a.held on)) (arguments_in a.held args) (state_in a n)) result a z m → GivesReply asked result a z m
  basic_replies b on result z m is g =
      subst (λ (e : Ending Here Reply). GivesReply e result a z m) (sym (by_its_row (Some (basic_row b)) is.0 ∙ (λ i. basic_row b p (is.1 i) (arguments_in a.held args) (state_in a n)))) g

  module _ (c : Codec) (z : View) (m : ℕ) (is : IsNative a r (native.Codec c)) where
    abbrev Comes : Result Value Stop → Type 0
    Comes result = Gives (value_row_of c p (arguments_in a.held args) (state_in a n)) result a z m

    answers : (e : Ending Here plain.Value) → value_row_of c p (arguments_in a.held args) (state_in a n) ≡ e → asked ≡ then_do e (λ v. give (answer v))
    answers e h = by_its_row (Some (codec_row c)) is ∙ ap (λ (o : Ending Here plain.Value). then_do o (λ v. give (answer v))) h

    pub codec_replies : (v : Value) → Comes (Ok v) → GivesReply asked (Ok (reply.Value v)) a z m
    codec_replies v g = record { meaning = answers _ g.meaning; owns = g.owns; grows = g.grows }

    pub codec_refuses : (x : Stop) → Comes (Err x) → GivesReply asked (Err x) a z m
    codec_refuses (stop.Fault f) g = record { meaning = answers _ g.meaning; owns = tt; grows = g.grows }
    codec_refuses stop.Memory g = record { meaning = tt; owns = tt; grows = g.grows }

  pub none_replies : (x : Stop) → IsNative a r native.Unknown → x ≡ stop.Fault (fault_at kind.ValueKind p) → GivesReply asked (Err x) a a n
  none_replies x is e = refuses p a n asked x e (by_its_row None is)

-- ---- and where a call that it asked for has come to something

module _ (a : View) (r : Ref) (tag : ℕ) (got : Result Value Fault) (p : Place) (n : ℕ) where
  abbrev again : Ending Here Reply
  again = question_row (resume_of a r tag got p) (state_in a n)

  pub try_replies : (result : Result held.Reply Stop) (z : View) (m : ℕ) → true ≡ bytes_eq (host_name (native_at a r)) (codes "assert.try_to") → GivesReply (tried p (got_of a got) (state_in a n)) result a z m → GivesReply again result a z m
  unfolding question_row
  try_replies result z m is g = subst (λ (e : Ending Here Reply). GivesReply e result a z m) (λ i. (if is i then tried p (got_of a got) else fail kind.ValueKind p) (state_in a n)) g

  pub others_refuse : (x : Stop) → false ≡ bytes_eq (host_name (native_at a r)) (codes "assert.try_to") → x ≡ stop.Fault (fault_at kind.ValueKind p) → GivesReply again (Err x) a a n
  unfolding question_row
  others_refuse x is e = refuses p a n again x e (λ i. (if sym is i then tried p (got_of a got) else fail kind.ValueKind p) (state_in a n))

-- ---- the host

-- what is replied so is the answer of a host that keeps nothing
pub host_replies : {H : Type 0} (q : Question) (result : Result held.Reply Stop) (after before : Session) (h : H) → RepliesTo q result after before → HostGives modules_answer q result after before h h
host_replies q (Ok r) after before h g = record { meaning = ap (λ (e : Ending Here Reply). let r = answered e in (r.0, with_host h r.1)) g.meaning; owned = g.owns; grows = g.grows }
host_replies q (Err (stop.Fault f)) after before h g = record { meaning = ap (λ (e : Ending Here Reply). let r = answered e in (r.0, with_host h r.1)) g.meaning; owned = tt; grows = g.grows }
host_replies q (Err stop.Memory) after before h g = record { meaning = tt; owned = tt; grows = tt }
