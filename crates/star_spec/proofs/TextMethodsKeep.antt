-- What the methods of texts give is what the program holds.
use Rattle.std.proofs.Common.{ℕ, List, [], ◌∷◌, Option, Some, None, option_map, option_and_then, IsUtf8, bytes_eq, codes, arith}
use Rattle.ytt_base.specs.declared.fault.FaultKind.TheVariants as kind
use Rattle.ytt_base.specs.declared.fault.Place.{Place}
use Rattle.code_spec.specs.Code.{Name}
use Rattle.star_spec.specs.Held.{HeldValue, HeldList, HeldStore, HeldArguments}
use Rattle.text_spec.specs.Answers.{Answer, one_text, one_test, one_number, text_list, text_tuple, nowhere, answer_bytes, answer_members, give_answer, text_values}
use Rattle.text_spec.specs.Methods.{Method, method_answer, method_in, row_of, text_method, text_methods}
use Rattle.text_spec.specs.Signatures.{Kind, no_kind, text_kind, separator, optional_text, optional_separator, optional_integer, optional_bool, text_or_texts, text_members, Kinds, Operand, of_texts, all_texts, read_as, read_operands, read_texts, text_in_front, three_read, value_at}
use Rattle.value_spec.specs.Binding.{none_for_each, parameters_named}
use Rattle.value_spec.specs.Members.{as_text, members_in}
use Rattle.value_spec.specs.Values.{Value, none_value, bool_value, int_value, text_value, tuple_value, values_in, Arguments, Store}
use Rattle.text_spec.proofs.Answers.{AllAnswerUtf8, AnswerUtf8, AnswersUtf8, Fits, OperandUtf8, OperandsFit, methods_utf8}
use Rattle.text_spec.proofs.Utf8.{AreUtf8}
use Rattle.star_spec.proofs.BindingsKeep.{bound_keeps, nones_held, nth_held}
use Rattle.star_spec.proofs.FillingKeeps.{format_keeps, paid_keeps}
use Rattle.star_spec.proofs.Keeping.{IfFound, found_if, found_one, Keeps, keeps_then, keeps_give, keeps_fail, keeps_if, keeps_or_fail, keeps_reads}
use Rattle.star_spec.proofs.MembersHeld.{from_values, in_values, members_held, new_list_keeps}
use Rattle.star_spec.proofs.RowsHeld.{int_of_held}

-- ---- what the arguments of a method are read as

-- a separator isn't empty, and texts are in UTF-8
abbrev IsRead : Kind → Operand → Type 0
IsRead k o = Fits k o × OperandUtf8 o

text_there : (v : Value) → HeldValue v → IfFound IsUtf8 (as_text v)
text_there (text_value t) h = h
text_there _ h = tt

front_there : (a : Option (List ℕ)) (b : Option (List (List ℕ))) → IfFound IsUtf8 a → IfFound AreUtf8 b → IfFound AreUtf8 (text_in_front a b)
front_there None b h k = tt
front_there (Some t) None h k = tt
front_there (Some t) (Some ts) h k = (h, k)

texts_there : (vs : List Value) → HeldList vs → IfFound AreUtf8 (all_texts vs)
texts_there [] h = tt
texts_there (v ∷ vs) h = front_there (as_text v) (all_texts vs) (text_there v h.0) (texts_there vs h.1)

choices_read : (vs : List Value) → HeldList vs → IfFound (IsRead text_or_texts) (read_texts vs)
choices_read vs h = by (all_texts vs) (texts_there vs h) where
  by : (o : Option (List (List ℕ))) → IfFound AreUtf8 o → IfFound (IsRead text_or_texts) (option_map of_texts o)
  by None u = tt
  by (Some ts) u = (tt, u)

members_read : (o : Option (List Value)) → IfFound HeldList o → IfFound (IsRead text_members) (option_and_then read_texts o)
members_read None h = tt
members_read (Some vs) h = choices_read vs h

one_read : (store : Store) (k : Kind) (v : Value) → HeldStore store → HeldValue v → IfFound (IsRead k) (read_as store k v)
one_read store no_kind v g h = (tt, tt)
one_read store text_kind (text_value t) g h = (tt, h)
one_read store text_kind _ g h = tt
one_read store separator (text_value []) g h = tt
one_read store separator (text_value (b ∷ t)) g h = (omega arith, h)
one_read store separator _ g h = tt
one_read store optional_text none_value g h = (tt, tt)
one_read store optional_text (text_value t) g h = (tt, h)
one_read store optional_text _ g h = tt
one_read store optional_separator none_value g h = (tt, tt)
one_read store optional_separator (text_value []) g h = tt
one_read store optional_separator (text_value (b ∷ t)) g h = (tt, h)
one_read store optional_separator _ g h = tt
one_read store optional_integer none_value g h = (tt, tt)
one_read store optional_integer (int_value z) g h = (tt, tt)
one_read store optional_integer _ g h = tt
one_read store optional_bool none_value g h = (tt, tt)
one_read store optional_bool (bool_value b) g h = (tt, tt)
one_read store optional_bool _ g h = tt
one_read store text_or_texts (tuple_value vs) g h = choices_read (values_in vs) (in_values vs h)
one_read store text_or_texts v g h = choices_read (v ∷ []) (h, tt)
one_read store text_members v g h = members_read (members_in store v) (members_held store v g h)

three : (ks : Kinds) (a b c : Option Operand) → IfFound (IsRead ks.first) a → IfFound (IsRead ks.second) b → IfFound (IsRead ks.third) c → IfFound (OperandsFit ks) (three_read a b c)
three ks None b c h k g = tt
three ks (Some x) None c h k g = tt
three ks (Some x) (Some y) None h k g = tt
three ks (Some x) (Some y) (Some z) h k g = record { first = h.0; utf8 = record { first = h.1; second = k.1; third = g.1 } }

all_read : (store : Store) (ks : Kinds) (vs : List Value) → HeldStore store → HeldList vs → IfFound (OperandsFit ks) (read_operands store ks vs)
all_read store ks vs g h =
    three ks _ _ _ (one_read store ks.first (value_at 0 vs) g (nth_held 0 vs h)) (one_read store ks.second (value_at 1 vs) g (nth_held 1 vs h)) (one_read store ks.third (value_at 2 vs) g (nth_held 2 vs h))

-- ---- methods of texts

texts_held : (ts : List (List ℕ)) → AreUtf8 ts → HeldList (text_values ts)
texts_held [] u = tt
texts_held (t ∷ ts) u = (u.0, texts_held ts u.1)

answer_keeps : {H : Type 0} (p : Place) (a : Answer) → AnswerUtf8 a → Keeps {H = H} HeldValue (give_answer p a)
answer_keeps p (one_text t) u = keeps_give (text_value t) u
answer_keeps p (one_test b) u = keeps_give (bool_value b) tt
answer_keeps p (one_number z) u = int_of_held p z
answer_keeps p (text_list ts) u = new_list_keeps (text_values ts) (texts_held ts u)
answer_keeps p (text_tuple ts) u = keeps_give _ (from_values (text_values ts) (texts_held ts u))
answer_keeps p nowhere u = keeps_fail kind.KeyMissing p []

answered_keeps : {H : Type 0} (p : Place) (m : Method) (t : List ℕ) (vs : List Value) → AnswersUtf8 m → IsUtf8 t → HeldList vs → Keeps {H = H} AnswerUtf8 (method_answer p m t vs)
answered_keeps p m t vs answers u h =
    keeps_then (keeps_then {P = IfFound (OperandsFit m.kinds)} (keeps_reads (λ store. read_operands store m.kinds vs) (λ store g. all_read store m.kinds vs g h)) (λ o k. keeps_or_fail kind.ValueKind p o (λ os e. found_one (OperandsFit m.kinds) o os k e)))
    (λ os fit. paid_keeps p (text_value t ∷ vs) (answer_bytes (m.answer t os)) (answer_members (m.answer t os)) (keeps_give (m.answer t os) (answers t os u fit)))

answers_in : (x : Name) (ms : List (Name × Method)) → AllAnswerUtf8 ms → IfFound AnswersUtf8 (method_in x ms)
answers_in x [] h = tt
answers_in x (m ∷ ms) h = found_if AnswersUtf8 (bytes_eq x m.0) (Some m.1) (method_in x ms) h.0 (answers_in x ms h.1)

row_keeps : {H : Type 0} (p : Place) (x : Name) (o : Option Method) (t : List ℕ) (vs : Arguments) → IfFound AnswersUtf8 o → IsUtf8 t → HeldArguments vs → Keeps {H = H} HeldValue (row_of p x o t vs)
row_keeps p x None t vs answers u h = keeps_fail kind.KeyMissing p x
row_keeps p x (Some m) t vs answers u h =
    keeps_then (bound_keeps p (parameters_named m.needed m.optional) (none_for_each m.optional) vs (nones_held m.optional) h) (λ ws k.
    keeps_then (answered_keeps p m t ws answers u k) (λ a w. answer_keeps p a w))

pub method_keeps : {H : Type 0} (p : Place) (x : Name) (t : List ℕ) (vs : Arguments) → IsUtf8 t → HeldArguments vs → Keeps {H = H} HeldValue (text_method p x t vs)
method_keeps p x t vs u h = keeps_if (bytes_eq x (codes "format")) (λ e. format_keeps p t vs u h) (λ e. row_keeps p x (method_in x text_methods) t vs (answers_in x text_methods methods_utf8) u h)
