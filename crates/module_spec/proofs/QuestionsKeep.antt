-- What modules answer is such as the program holds, row by row.
use Rattle.std.proofs.Common.{◌∷◌, List, [], Option, Some, None, bytes_eq, codes, refl}
use Rattle.ytt_base.specs.declared.fault.FaultKind.TheVariants as kind
use Rattle.ytt_base.specs.declared.fault.Place.{Place}
use Rattle.code_spec.specs.Code.{Name}
use Rattle.star_spec.proofs.Keeping.{IfFound, Keeps, Kept, found_if, keeps_fail, keeps_if}
use Rattle.star_spec.proofs.MembersHeld.{in_values}
use Rattle.star_spec.proofs.TextsKeep.{low_utf8}
use Rattle.star_spec.specs.Held.{HeldAnswer, HeldArguments, HeldList, HeldQuestion, HeldReply, HeldStore}
use Rattle.value_spec.specs.Outcomes.{Ending, Question, Reply, asks, bad, called, done, resumed}
use Rattle.value_spec.specs.Values.{Arguments, Value, values_in}
use Rattle.module_spec.proofs.ChecksKeep.{check_keeps, not_null_keeps, number_rule_keeps, value_rule_keeps}
use Rattle.module_spec.proofs.JsonKeeps as json
use Rattle.module_spec.proofs.RowsKeep.{RowKeeps, base64_decode_keeps, base64_encode_keeps, equals_keeps, fail_keeps, md5_keeps, one_keeps, own_keeps, replace_keeps, sha256_keeps, text_keeps, tried_keeps, try_keeps}
use Rattle.module_spec.proofs.StructsKeep as structs
use Rattle.module_spec.proofs.YamlKeeps as yaml
use Rattle.module_spec.specs.Answering.{answered, by_row, codec_natives, natives, question_row, row_in}
use Rattle.module_spec.specs.Laws.{ModulesKeep}
use Rattle.module_spec.specs.Rows.{Row}

-- a table of rows that keep what the program holds
record EachKeeps {H : Type 0} (rs : List (Name × Row H)) : Type 0 where
  found : (x : Name) → IfFound RowKeeps (row_in x rs)

none_keep : {H : Type 0} → EachKeeps {H = H} []
none_keep = record { found = λ x. tt }

-- one in front of a table
infixr 4 ◌also◌
◌also◌ : {H : Type 0} {x : Name} {row : Row H} {rs : List (Name × Row H)} → RowKeeps row → EachKeeps rs → EachKeeps ((x, row) ∷ rs)
◌also◌ {x = x} {row = row} {rs = rs} h k = record { found = λ y. found_if RowKeeps (bytes_eq y x) (Some row) (row_in y rs) h (k.found y) }

codecs_keep : {H : Type 0} → EachKeeps {H = H} codec_natives
codecs_keep =
    one_keeps (codes "x") json.encode_keeps also
    text_keeps (codes "text") json.decode_keeps also
    one_keeps (codes "x") yaml.encode_keeps also
    text_keeps (codes "text") yaml.decode_keeps also
    base64_encode_keeps also
    base64_decode_keeps also
    sha256_keeps also
    md5_keeps also
    none_keep

natives_keep : {H : Type 0} → EachKeeps {H = H} natives
natives_keep =
    own_keeps structs.make_keeps also
    one_keeps (codes "x") structs.encode_keeps also
    one_keeps (codes "x") structs.decode_keeps also
    fail_keeps also
    equals_keeps also
    try_keeps also
    one_keeps (codes "n") (value_rule_keeps (codes "min") (low_utf8 (codes "min") refl)) also
    one_keeps (codes "n") (value_rule_keeps (codes "max") (low_utf8 (codes "max") refl)) also
    one_keeps (codes "n") (number_rule_keeps (codes "min_len") (low_utf8 (codes "min_len") refl)) also
    one_keeps (codes "n") (number_rule_keeps (codes "max_len") (low_utf8 (codes "max_len") refl)) also
    not_null_keeps also
    check_keeps also
    one_keeps (codes "x") replace_keeps also
    codecs_keep

by_row_keeps : {H : Type 0} (o : Option (Row H)) → IfFound RowKeeps o → (p : Place) (held : List Value) (args : Arguments) → HeldList held → HeldArguments args → Keeps HeldReply (by_row o p held args)
by_row_keeps None h p held args k g = keeps_fail kind.ValueKind p []
by_row_keeps (Some row) h p held args k g = h.by p held args k g

question_keeps : {H : Type 0} (q : Question) → HeldQuestion q → Keeps {H = H} HeldReply (question_row q)
unfolding question_row
question_keeps (called p x held args) h = by_row_keeps (row_in x natives) (natives_keep.found x) p (values_in held) args (in_values held h.0) h.1
question_keeps (resumed p x held tag got) h = keeps_if (bytes_eq x (codes "assert.try_to")) (λ e. tried_keeps p got h.1) (λ e. keeps_fail kind.ValueKind p [])

answered_held : (e : Ending (Unit {0}) Reply) → Kept HeldReply e → HeldAnswer (answered e).0 × HeldStore (answered e).1.store
answered_held (done r s) h = h
answered_held (bad f s) h = (tt, h)
answered_held (asks q s k) h = (tt, h.1)

pub answers_keep : ModulesKeep
answers_keep q s h held = answered_held (question_row q s) ((question_keeps q h).by s held)
