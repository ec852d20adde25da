-- What the natives of modules reply to what they are asked.
use Rattle.std.specs.Prelude.{◌≡◌, Option, Some, None, Result}
use Rattle.ytt_base.specs.declared.fault.Stop.{Stop}
use Rattle.code_spec.specs.Code.{Name}
use Rattle.mod_basic.specs.View.{row_of as basic_row}
use Rattle.mod_codec.specs.View.{row_of as codec_row}
use Rattle.module_spec.specs.Answering.{natives, question_row, row_in}
use Rattle.star_eval.specs.Hosts.{host_held, host_name, native_at}
use Rattle.star_eval.specs.Meets.{arena_of, state_of}
use Rattle.star_eval.specs.declared.session.Session.{Session}
use Rattle.star_steps.specs.Replies.{GivesReply}
use Rattle.star_values.specs.Owns.{OwnsOption}
use Rattle.star_values.specs.View.{View, option_in}
use Rattle.star_values.specs.declared.value.Ref.{Ref}
use Rattle.star_values.specs.declared.value.Reply.{Reply}
use Rattle.star_values.specs.declared.value.Value.{Value}
use Rattle.value_spec.specs.Outcomes.{Question}
use Rattle.value_spec.specs.Store.{option_members}
use Rattle.value_spec.specs.Values.{values_in}
use Rattle.file_load.specs.declared.host.Native.{Native}
use Rattle.file_load.specs.declared.host.Native.TheVariants as native

-- the native of a name that holds this
abbrev pub NamesNative : Name → Option Value → Native → Type 0
NamesNative x on (native.Basic b held) = (row_in x natives ≡ Some (basic_row b)) × (held ≡ on)
NamesNative x on (native.Codec c) = row_in x natives ≡ Some (codec_row c)
NamesNative x on native.Unknown = row_in {H = Unit {0}} x natives ≡ None

-- what a native of a host is: its row, and the value that it holds
abbrev pub IsNative : View → Ref → Native → Type 0
IsNative a r (native.Basic b on) =
    (row_in (host_name (native_at a r)) natives ≡ Some (basic_row b)) × (values_in (host_held (native_at a r)) ≡ option_members (option_in a.held on)) × OwnsOption a on
IsNative a r (native.Codec c) = row_in (host_name (native_at a r)) natives ≡ Some (codec_row c)
IsNative a r native.Unknown = row_in {H = Unit {0}} (host_name (native_at a r)) natives ≡ None

-- what is replied is the reply of the definitions
abbrev pub RepliesTo : Question → Result Reply Stop → (after before : Session) → Type 0
RepliesTo q result after before = GivesReply (question_row q (state_of before)) result (arena_of before) (arena_of after) after.work.steps
