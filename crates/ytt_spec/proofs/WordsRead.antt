-- Words that ask for a command are the words of a request, and all requests are read so.
use Rattle.std.proofs.Common.{◌≡◌, ℕ, ◌+◌, Bool, true, false, ◌&&◌, cond, List, [], ◌∷◌, ◌++◌, Option, Some, None, bytes_eq, refl, ap, sym, ◌∙◌, inl, inr, ⊎_elim, append_assoc, append-nil}
use Rattle.std.specs.Cmp.{first_so, second_so}
use Rattle.std.specs.List.{list_all}
use Rattle.ytt_spec.proofs.Options.{Follows, asked_next, begun_follows, cut_back, cut_joined, cut_whole, follows_begun, named_holds, next, no_equals, no_flag, same, stands_after, values_of-append}
use Rattle.ytt_spec.specs.Requests.{IsRequest, IsSpelled, is_good, spelled, spelled_one}
use Rattle.ytt_spec.specs.Words.{Asked, asked_for, wrong, Verb, rendering, compiling, Command, CommandOption, Given, Form, alone, apart, joined, added, are_all_given, asked, asked_from, asked_value, begun, command_given, command_options, equals, may_have, may_stand, name_in, named, Purpose, for_path, for_steps, for_depth, for_ignoring, is_for, same_purpose, value_in, value_of, values_of, verb_of, verb_word}

abbrev given : List ℕ → Form → Given
given name form = record { name = name; form = form }

module _ (verb : Verb) where
  -- ---- from words to a request

  -- what the options behind those that were read still give
  pub record Rest (gs : List Given) (words : List (List ℕ)) (c : Command) : Type 0 where
    pub more : List Given
    pub spelled_is : words ≡ spelled more
    pub good : list_all (is_good verb) more ≡ true
    pub complete : are_all_given verb (gs ++ more) ≡ true
    pub command_is : c ≡ command_given verb (gs ++ more)

  -- the same, where the first word is the value of an option
  record AtValue (gs : List Given) (o : CommandOption) (name : List ℕ) (words : List (List ℕ)) (c : Command) : Type 0 where
    value : List ℕ
    words_behind : List (List ℕ)
    words_are : words ≡ value ∷ words_behind
    good : may_stand o (apart value) ≡ true
    after : Rest (added gs name (apart value)) words_behind c

  no_more : (n : ℕ) (gs : List Given) (c : Command) (b : Bool) → are_all_given verb gs ≡ b → cond b (asked_for (command_given verb gs)) (wrong n) ≡ asked_for c → Rest gs [] c
  no_more n gs c true h e =
      let command_is : c ≡ command_given verb gs = cc in
      let all = append-nil gs in
      record { more = []; spelled_is = refl; good = refl; complete = ap (are_all_given verb) all ∙ h; command_is = command_is ∙ sym (ap (command_given verb) all) }
  no_more n gs c false h e = cc

  one_more : (gs : List Given) (g : Given) (words behind : List (List ℕ)) (c : Command) → words ≡ spelled_one g ++ behind → is_good verb g ≡ true → Rest (gs ++ (g ∷ [])) behind c → Rest gs words c
  one_more gs g words behind c e h r =
      let all = append_assoc gs (g ∷ []) r.more in
      record {
        more = g ∷ r.more;
        spelled_is = e ∙ ap (λ ws. spelled_one g ++ ws) r.spelled_is;
        good = (λ i. h i && r.good i);
        complete = sym (ap (are_all_given verb) all) ∙ r.complete;
        command_is = r.command_is ∙ ap (command_given verb) all;
      }

  good_given : (name : List ℕ) (form : Form) (o : CommandOption) → named name (command_options verb) ≡ Some o → may_stand o form ≡ true → is_good verb (given name form) ≡ true
  good_given name form o found h = ap (λ r. elim r [ None ↦ false | Some p ↦ may_stand p form ]) found ∙ h

  by_joined : (n : ℕ) (gs : List Given) (o : CommandOption) (word value : List ℕ) (words : List (List ℕ)) (c : Command) (b : Bool) → named (name_in word) (command_options verb) ≡ Some o → value_in word ≡ Some value
      → (asked_from verb (n + 1) (added gs (name_in word) (joined value)) words ≡ asked_for c → Rest (added gs (name_in word) (joined value)) words c)
      → may_stand o (joined value) ≡ b → cond b (asked_from verb (n + 1) (added gs (name_in word) (joined value)) words) (wrong n) ≡ asked_for c → Rest gs (word ∷ words) c
  by_joined n gs o word value words c true found cut read h e =
      one_more gs (given (name_in word) (joined value)) (word ∷ words) words c (ap (λ w. w ∷ words) (sym (cut_back word value cut))) (good_given (name_in word) (joined value) o found h) (read e)
  by_joined n gs o word value words c false found cut read h e = cc

  by_alone : (n : ℕ) (gs : List Given) (o : CommandOption) (word : List ℕ) (words : List (List ℕ)) (c : Command) (b : Bool) → named (name_in word) (command_options verb) ≡ Some o → value_in word ≡ None
      → (asked_from verb (n + 1) (added gs (name_in word) alone) words ≡ asked_for c → Rest (added gs (name_in word) alone) words c)
      → (asked_value verb (n + 1) gs o (name_in word) words ≡ asked_for c → AtValue gs o (name_in word) words c)
      → may_stand o alone ≡ b → cond b (asked_from verb (n + 1) (added gs (name_in word) alone) words) (asked_value verb (n + 1) gs o (name_in word) words) ≡ asked_for c → Rest gs (word ∷ words) c
  by_alone n gs o word words c true found cut read read_value h e =
      one_more gs (given (name_in word) alone) (word ∷ words) words c (ap (λ w. w ∷ words) (sym (cut_whole word cut))) (good_given (name_in word) alone o found h) (read e)
  by_alone n gs o word words c false found cut read read_value h e =
      let at = read_value e in
      one_more gs (given (name_in word) (apart at.value)) (word ∷ words) at.words_behind c (λ i. sym (cut_whole word cut) i ∷ at.words_are i) (good_given (name_in word) (apart at.value) o found at.good) at.after

  by_next : (n : ℕ) (gs : List Given) (word : List ℕ) (words : List (List ℕ)) (c : Command) (o : Option CommandOption) (v : Option (List ℕ)) → begun verb gs (name_in word) ≡ o → value_in word ≡ v
      → ((form : Form) → asked_from verb (n + 1) (added gs (name_in word) form) words ≡ asked_for c → Rest (added gs (name_in word) form) words c)
      → ((q : CommandOption) → asked_value verb (n + 1) gs q (name_in word) words ≡ asked_for c → AtValue gs q (name_in word) words c)
      → next verb n gs (name_in word) words o v ≡ asked_for c → Rest gs (word ∷ words) c
  by_next n gs word words c None v b w read read_value e = cc
  by_next n gs word words c (Some o) (Some value) b w read read_value e =
      by_joined n gs o word value words c (may_stand o (joined value)) (begun_follows verb gs (name_in word) o b).found w (read (joined value)) refl e
  by_next n gs word words c (Some o) None b w read read_value e =
      by_alone n gs o word words c (may_stand o alone) (begun_follows verb gs (name_in word) o b).found w (read alone) (read_value o) refl e

  at_value : (n : ℕ) (gs : List Given) (o : CommandOption) (name value : List ℕ) (words : List (List ℕ)) (c : Command) (b : Bool)
      → (asked_from verb (n + 1) (added gs name (apart value)) words ≡ asked_for c → Rest (added gs name (apart value)) words c)
      → may_stand o (apart value) ≡ b → cond b (asked_from verb (n + 1) (added gs name (apart value)) words) (wrong n) ≡ asked_for c → AtValue gs o name (value ∷ words) c
  at_value n gs o name value words c true read h e = record { value = value; words_behind = words; words_are = refl; good = h; after = read e }
  at_value n gs o name value words c false read h e = cc

  mutual
    pub read_from : (n : ℕ) (gs : List Given) (words : List (List ℕ)) (c : Command) → asked_from verb n gs words ≡ asked_for c → Rest gs words c
    read_from n gs [] c e = no_more n gs c (are_all_given verb gs) refl e
    read_from n gs (word ∷ words) c e =
        by_next n gs word words c (begun verb gs (name_in word)) (value_in word) refl refl (λ form. read_from (n + 1) (added gs (name_in word) form) words c) (λ o. read_value (n + 1) gs o (name_in word) words c) (sym (asked_next verb n gs word words) ∙ e)

    read_value : (n : ℕ) (gs : List Given) (o : CommandOption) (name : List ℕ) (words : List (List ℕ)) (c : Command) → asked_value verb n gs o name words ≡ asked_for c → AtValue gs o name words c
    read_value n gs o name [] c e = cc
    read_value n gs o name (value ∷ words) c e = at_value n gs o name value words c (may_stand o (apart value)) (read_from (n + 1) (added gs name (apart value)) words c) refl e

-- the command of a word is that of its own
pub word_is : (word : List ℕ) (verb : Verb) → verb_of word ≡ Some verb → word ≡ verb_word verb
word_is word verb h = by (bytes_eq word (verb_word rendering)) (bytes_eq word (verb_word compiling)) refl refl h
  where
    by : (a b : Bool) → bytes_eq word (verb_word rendering) ≡ a → bytes_eq word (verb_word compiling) ≡ b → cond a (Some rendering) (cond b (Some compiling) None) ≡ Some verb → word ≡ verb_word verb
    by true b e f k = let is : rendering ≡ verb = cc in same word (verb_word rendering) e ∙ ap verb_word is
    by false true e f k = let is : compiling ≡ verb = cc in same word (verb_word compiling) f ∙ ap verb_word is
    by false false e f k = cc

by_command : (word : List ℕ) (words : List (List ℕ)) (c : Command) (o : Option Verb) → verb_of word ≡ o → elim o [ Some verb ↦ asked_from verb 2 [] words | None ↦ asked_from rendering 1 [] (word ∷ words) ] ≡ asked_for c → IsRequest (word ∷ words) c
by_command word words c (Some verb) h e =
    let r = read_from verb 2 [] words c e in
    record { verb = verb; given = r.more; spelled_is = inr (λ i. word_is word verb h i ∷ r.spelled_is i); good = r.good; complete = r.complete; command_is = r.command_is }
by_command word words c None h e =
    let r = read_from rendering 1 [] (word ∷ words) c e in
    record { verb = rendering; given = r.more; spelled_is = inl (refl, r.spelled_is); good = r.good; complete = r.complete; command_is = r.command_is }

-- words that ask for a command are a request for it
pub request_read : (words : List (List ℕ)) (c : Command) → asked words ≡ asked_for c → IsRequest words c
request_read [] c e = cc
request_read (word ∷ words) c e = by_command word words c (verb_of word) refl e

-- ---- from a request to its words

pub same_itself : (purpose : Purpose) → same_purpose purpose purpose ≡ true
same_itself for_path = refl
same_itself for_steps = refl
same_itself for_depth = refl
same_itself for_ignoring = refl

module _ (verb : Verb) where
  -- an option that stands among all is one that may stand there
  record IsNext (gs : List Given) (name : List ℕ) (form : Form) : Type 0 where
    option : CommandOption
    follows : Follows verb gs name option
    good : may_stand option form ≡ true

  good_is : (name : List ℕ) (form : Form) (o : Option CommandOption) → named name (command_options verb) ≡ o → elim o [ None ↦ false | Some p ↦ may_stand p form ] ≡ true
      → (p : CommandOption) × (named name (command_options verb) ≡ Some p) × (may_stand p form ≡ true)
  good_is name form None e h = cc
  good_is name form (Some p) e h = (p, e, h)

  one_value : (name : List ℕ) (form : Form) (more : List Given) (o : CommandOption) → named name (command_options verb) ≡ Some o → values_of verb o.purpose (given name form ∷ more) ≡ value_of form ∷ values_of verb o.purpose more
  one_value name form more o found = ap (λ b. cond b (value_of form ∷ values_of verb o.purpose more) (values_of verb o.purpose more)) (ap (is_for o.purpose) found ∙ same_itself o.purpose)

  is_next : (gs : List Given) (name : List ℕ) (form : Form) (more : List Given) → is_good verb (given name form) ≡ true → are_all_given verb (gs ++ (given name form ∷ more)) ≡ true → IsNext gs name form
  is_next gs name form more h all =
      let (o, found, good) = good_is name form (named name (command_options verb)) refl h in
      let every = gs ++ (given name form ∷ more) in
      let stands = named_holds (λ (x : CommandOption). may_have x.often (values_of verb x.purpose every)) name (command_options verb) o found all in
      let values : values_of verb o.purpose every ≡ values_of verb o.purpose gs ++ (value_of form ∷ values_of verb o.purpose more) =
      values_of-append verb o.purpose gs (given name form ∷ more) ∙ ap (λ vs. values_of verb o.purpose gs ++ vs) (one_value name form more o found) in
      let follows = stands_after o.often (values_of verb o.purpose gs) (values_of verb o.purpose more) (value_of form) (sym (ap (may_have o.often) values) ∙ stands.0) in
      record { option = o; follows = record { found = found; follows = follows }; good = good }

  abbrev asks : List Given → Asked
  asks gs = asked_for (command_given verb gs)

  -- a word that is the name of an option alone
  by_name : (n : ℕ) (gs : List Given) (name : List ℕ) (words : List (List ℕ)) (o : CommandOption) → Follows verb gs name o → asked_from verb n gs (name ∷ words) ≡ next verb n gs name words (Some o) None
  by_name n gs name words o f =
      let whole = no_equals verb name o f.found in
      asked_next verb n gs name words ∙ (λ i. next verb n gs (cut_whole name whole i) words (begun verb gs (cut_whole name whole i)) (whole i)) ∙ ap (λ o. next verb n gs name words o None) (follows_begun verb gs name o f)

  -- the option that stands there is read as it stands
  form_next : (n : ℕ) (gs : List Given) (name : List ℕ) (form : Form) (words : List (List ℕ)) → IsNext gs name form → (m : ℕ) × (asked_from verb n gs (spelled_one (given name form) ++ words) ≡ asked_from verb m (added gs name form) words)
  form_next n gs name alone words at =
      (n + 1, by_name n gs name words at.option at.follows ∙ ap (λ b. cond b (asked_from verb (n + 1) (added gs name alone) words) (asked_value verb (n + 1) gs at.option name words)) at.good)
  form_next n gs name (apart value) words at = (
    n + 1 + 1,
    by_name n gs name (value ∷ words) at.option at.follows
        ∙ ap (λ b. cond b (asked_from verb (n + 1) (added gs name alone) (value ∷ words)) (asked_value verb (n + 1) gs at.option name (value ∷ words))) (no_flag verb at.option value at.good)
        ∙ ap (λ b. cond b (asked_from verb (n + 1 + 1) (added gs name (apart value)) words) (wrong (n + 1))) at.good,
  )
  form_next n gs name (joined value) words at =
      let cut = cut_joined name value (no_equals verb name at.option at.follows.found) in (
        n + 1,
        asked_next verb n gs (name ++ equals ∷ value) words
            ∙ (λ i. next verb n gs (cut.0 i) words (begun verb gs (cut.0 i)) (cut.1 i))
            ∙ ap (λ o. next verb n gs name words o (Some value)) (follows_begun verb gs name at.option at.follows)
            ∙ ap (λ b. cond b (asked_from verb (n + 1) (added gs name (joined value)) words) (wrong n)) at.good,
      )

  request_next : (n : ℕ) (gs : List Given) (name : List ℕ) (form : Form) (more : List Given) → is_good verb (given name form) ≡ true → are_all_given verb (gs ++ (given name form ∷ more)) ≡ true
      → ((k : ℕ) (hs : List Given) → are_all_given verb (hs ++ more) ≡ true → asked_from verb k hs (spelled more) ≡ asks (hs ++ more))
      → asked_from verb n gs (spelled (given name form ∷ more)) ≡ asks (gs ++ (given name form ∷ more))
  request_next n gs name form more good all read =
      let step = form_next n gs name form (spelled more) (is_next gs name form more good all) in
      let assoc = append_assoc gs (given name form ∷ []) more in
      step.1 ∙ read step.0 (added gs name form) (ap (are_all_given verb) assoc ∙ all) ∙ ap asks assoc

  -- options that stand as often as they must are read to their end
  pub request_from : (n : ℕ) (gs more : List Given) → list_all (is_good verb) more ≡ true → are_all_given verb (gs ++ more) ≡ true → asked_from verb n gs (spelled more) ≡ asks (gs ++ more)
  request_from n gs [] good all = ap (λ b. cond b (asks gs) (wrong n)) (sym (ap (are_all_given verb) (append-nil gs)) ∙ all) ∙ sym (ap asks (append-nil gs))
  request_from n gs (g ∷ more) good all =
      request_next n gs g.name g.form more (first_so (is_good verb g) (list_all (is_good verb) more) good) all (λ k hs. request_from k hs more (second_so (is_good verb g) (list_all (is_good verb) more) good))

-- a command's word begins no option
no_option : (verb : Verb) (words : List (List ℕ)) → asked_from rendering 1 [] (verb_word verb ∷ words) ≡ wrong 1
no_option rendering words = refl
no_option compiling words = refl

-- what is read as options begins with no command
without_command : (words : List (List ℕ)) (c : Command) → asked_from rendering 1 [] words ≡ asked_for c → asked words ≡ asked_for c
without_command [] c e = e
without_command (word ∷ words) c e = by (verb_of word) refl
  where
    by : (o : Option Verb) → verb_of word ≡ o → elim o [ Some verb ↦ asked_from verb 2 [] words | None ↦ asked_from rendering 1 [] (word ∷ words) ] ≡ asked_for c
    by (Some verb) h =
        let refused : asked_from rendering 1 [] (word ∷ words) ≡ wrong 1 = ap (λ w. asked_from rendering 1 [] (w ∷ words)) (word_is word verb h) ∙ no_option verb words in
        cc
    by None h = e

behind_word : (verb : Verb) (words : List (List ℕ)) → asked (verb_word verb ∷ words) ≡ asked_from verb 2 [] words
behind_word rendering words = refl
behind_word compiling words = refl

-- a request is read as what it asks for
pub read_request : (words : List (List ℕ)) (c : Command) → IsRequest words c → asked words ≡ asked_for c
read_request words c r = ⊎_elim
    (λ (e : (r.verb ≡ rendering) × (words ≡ spelled r.given)).
    ap asked e.1 ∙ without_command (spelled r.given) c (ap (λ verb. asked_from verb 1 [] (spelled r.given)) (sym e.0) ∙ request_from r.verb 1 [] r.given r.good r.complete ∙ ap asked_for (sym r.command_is)))
    (λ (e : words ≡ verb_word r.verb ∷ spelled r.given). ap asked e ∙ behind_word r.verb (spelled r.given) ∙ request_from r.verb 2 [] r.given r.good r.complete ∙ ap asked_for (sym r.command_is))
    r.spelled_is
