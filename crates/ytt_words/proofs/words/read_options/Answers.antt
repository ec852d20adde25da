use Rattle.std.proofs.Common.{◌≡◌, ◌≤◌, ◌<◌, ◌+◌, ◌∷◌, [], ap, arith, length, map, refl, rules, string_bytes, subst, sym, ◌∙◌}
use Rattle.std.proofs.lemmas.List.{length-map}
use Rattle.std.specs.Option.{option_map}
use Rattle.ytt_spec.specs.Words.{asked_from}
use Rattle.ytt_words.proofs.Walk.{Reading, behind_fewer, form_refused, number_behind, step_read, value_missing}
use Rattle.ytt_words.specs.Asks.{option_of, seen_verb, seen_words}
use Rattle.ytt_words.proofs.words.read_options.Goals as goal

pub loop-word-preserved : goal.loop-word-preserved
loop-word-preserved c =
    let (number, read) = c.loop-word.invariant in
    let v = c.args.verb in
    let words = map string_bytes c.in-Some.more.now in
    let option = option_of v c.in-Some-begun.option in
    let read_words = c.in-Some-words_of.words in
    let split : map string_bytes c.loop-word.rest.now ≡ c.as_str.result.now ∷ words = search rules in
    let behind = sym (c.words_of.ensures v) ∙ ap (option_map seen_words) c.in-Some-words_of.is in
    let good = rw c.in-Some-2.is at c.in_ok-new.ensures.good v in
    let put = rw c.in-Some-2.is at c.in_ok-new.ensures.put v in
    let here = subst (λ ws. Reading (seen_verb v) c.loop-word.values c.loop-word.number ws (asked_from (seen_verb v) c.args.first [] (map string_bytes c.args.words.now))) split read in
    let step =
    step_read v c.loop-word.number c.as_str.result.now words (asked_from (seen_verb v) c.args.first [] (map string_bytes c.args.words.now)) option (seen_words read_words) c.loop-word.values c.in-Some-2.new _ _ c.cut_word.ensures.name c.cut_word.ensures.value here
    (sym (c.begun.ensures here.given here.read) ∙ ap (option_map (option_of v)) c.in-Some-begun.is) behind good put in
    let counted : read_words.last + length (map string_bytes read_words.behind.now) ≡ c.loop-word.number + length words = number_behind option c.loop-word.number _ words (seen_words read_words) behind in
    let behind_words : length (map string_bytes read_words.behind.now) ≡ length read_words.behind.now = length-map read_words.behind.now string_bytes in
    let more : length words ≡ length c.in-Some.more.now = length-map c.in-Some.more.now string_bytes in
    let rest : length (map string_bytes c.loop-word.rest.now) ≡ length c.loop-word.rest.now = length-map c.loop-word.rest.now string_bytes in
    let one_more = ap length split in
    (omega arith, step)

pub loop-word-smaller : goal.loop-word-smaller
loop-word-smaller c =
    let words = map string_bytes c.in-Some.more.now in
    let read_words = c.in-Some-words_of.words in
    let split : map string_bytes c.loop-word.rest.now ≡ c.as_str.result.now ∷ words = search rules in
    let behind = sym (c.words_of.ensures c.args.verb) ∙ ap (option_map seen_words) c.in-Some-words_of.is in
    let fewer : length (map string_bytes read_words.behind.now) ≤ length words = behind_fewer (option_of c.args.verb c.in-Some-begun.option) c.loop-word.number _ words (seen_words read_words) behind in
    let behind_words : length (map string_bytes read_words.behind.now) ≡ length read_words.behind.now = length-map read_words.behind.now string_bytes in
    let rest : length (map string_bytes c.loop-word.rest.now) ≡ length c.loop-word.rest.now = length-map c.loop-word.rest.now string_bytes in
    let one_more = ap length split in
    let smaller : length read_words.behind.now < length c.loop-word.rest.now = omega arith in
    smaller

pub returns-in_default-words_of : goal.returns-in_default-words_of
returns-in_default-words_of c =
    let v = c.args.verb in
    let words = map string_bytes c.in-Some.more.now in
    let asked = asked_from (seen_verb v) c.args.first [] (map string_bytes c.args.words.now) in
    let split : map string_bytes c.loop-word.rest.now ≡ c.as_str.result.now ∷ words = search rules in
    let here = subst (λ ws. Reading (seen_verb v) c.loop-word.values c.loop-word.number ws asked) split c.loop-word.invariant.1 in
    let behind = sym (c.words_of.ensures v) ∙ ap (option_map seen_words) c.in_default-words_of.is in
    value_missing (seen_verb v) c.loop-word.number c.as_str.result.now words asked (option_of v c.in-Some-begun.option) c.loop-word.values _ _ c.cut_word.ensures.name c.cut_word.ensures.value here
    (sym (c.begun.ensures here.given here.read) ∙ ap (option_map (option_of v)) c.in-Some-begun.is) behind

pub returns-in_default-2 : goal.returns-in_default-2
returns-in_default-2 c =
    let v = c.args.verb in
    let words = map string_bytes c.in-Some.more.now in
    let asked = asked_from (seen_verb v) c.args.first [] (map string_bytes c.args.words.now) in
    let read_words = c.in-Some-words_of.words in
    let split : map string_bytes c.loop-word.rest.now ≡ c.as_str.result.now ∷ words = search rules in
    let here = subst (λ ws. Reading (seen_verb v) c.loop-word.values c.loop-word.number ws asked) split c.loop-word.invariant.1 in
    let behind = sym (c.words_of.ensures v) ∙ ap (option_map seen_words) c.in-Some-words_of.is in
    let bad = rw c.in_default-2.is at c.in_ok-new.ensures.refused v in
    form_refused (seen_verb v) c.loop-word.number c.as_str.result.now words asked (option_of v c.in-Some-begun.option) (seen_words read_words) c.loop-word.values _ _ c.cut_word.ensures.name c.cut_word.ensures.value here
    (sym (c.begun.ensures here.given here.read) ∙ ap (option_map (option_of v)) c.in-Some-begun.is) behind (bad refl)

pub overflow_add-number : goal.overflow_add-number
overflow_add-number c =
    let words = map string_bytes c.in-Some.more.now in
    let read_words = c.in-Some-words_of.words in
    let split : map string_bytes c.loop-word.rest.now ≡ c.as_str.result.now ∷ words = search rules in
    let behind = sym (c.words_of.ensures c.args.verb) ∙ ap (option_map seen_words) c.in-Some-words_of.is in
    let counted : read_words.last + length (map string_bytes read_words.behind.now) ≡ c.loop-word.number + length words = number_behind (option_of c.args.verb c.in-Some-begun.option) c.loop-word.number _ words (seen_words read_words) behind in
    let rest : length (map string_bytes c.loop-word.rest.now) ≡ length c.loop-word.rest.now = length-map c.loop-word.rest.now string_bytes in
    let one_more = ap length split in
    let number = c.loop-word.invariant.0 in
    omega arith
