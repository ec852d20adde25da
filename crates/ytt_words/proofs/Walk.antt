-- How the options are read, one after another.
use Rattle.std.proofs.Common.{◌≡◌, ◌≢◌, ℕ, ◌+◌, ◌≤◌, ◌<◌, Bool, true, false, cond, eqb, List, [], ◌∷◌, ◌++◌, length, map, Option, Some, None, Result, Ok, Err, IfSome, unwrap_or, refl, ap, sym, subst, ◌∙◌, arith, ⊎_elim, suc, append-nil}
use Rattle.std.proofs.lemmas.Bool.Decides.{eqb_tells}
use Rattle.std.specs.List.{list_all, after_first, before_first, position_or_len}
use Rattle.ytt_spec.proofs.Options.{asked_next, begun_follows, named_holds, next, values_of-append}
use Rattle.ytt_spec.proofs.WordsRead.{request_read, same_itself}
use Rattle.ytt_spec.proofs.WrongWords.{Within, added_within, given_all, none_given, none_within, wrong_words}
use Rattle.ytt_spec.specs.Words.{Asked, asked_for, wrong, CommandOption, Form, alone, apart, joined, Given, Verb, compiling, rendering, at_most_once, added, are_all_given, asked, asked_from, asked_value, begun, command_given, command_options, depth_option, equals, ignore_option, is_for, Purpose, for_path, for_steps, for_depth, for_ignoring, is_depth, is_steps, may_follow, may_stand, name_in, named, number_of, same_purpose, steps_option, value_in, value_of, values_of}
use Rattle.ytt_words.specs.Asks.{Asks, AsksFor, HaveRead, MayFollow, command_of, next_word, option_of, seen_verb, words_behind}
use Rattle.ytt_words.specs.declared.words.Command.{Command as CommandRead}
use Rattle.ytt_words.specs.declared.words.CommandOption.TheVariants as read
use Rattle.ytt_words.specs.declared.words.Values.{Values}
use Rattle.ytt_words.specs.declared.words.Verb.{Verb as VerbRead}
use Rattle.ytt_words.specs.declared.words.Verb.TheVariants as verb
use Rattle.ytt_words.specs.declared.words.WordsStop.{WordsStop}
use Rattle.ytt_words.specs.declared.words.WordsStop.TheVariants as stop

-- ---- a word, cut at its first `=`

abbrev is_equals : ℕ → Bool
is_equals b = eqb b equals

pub cut_none : (s : List ℕ) → position_or_len is_equals s ≡ length s → (name_in s ≡ s) × (value_in s ≡ None)
cut_none [] h = (refl, refl)
cut_none (b ∷ bs) h = ⊎_elim
    (λ (e : (eqb b equals ≡ true) × (b ≡ equals)). let k = rw e.0 at h in absurd (omega (arith, k)))
    (λ (e : (eqb b equals ≡ false) × (b ≢ equals)). let k = rw e.0 at h in let rest = cut_none bs (omega (arith, k)) in (rw e.0 (ap (λ t. b ∷ t) rest.0), rw e.0 rest.1))
    (eqb_tells b equals)

pub cut_some : (s : List ℕ) → position_or_len is_equals s < length s → (name_in s ≡ before_first is_equals s) × (value_in s ≡ Some (after_first is_equals s))
cut_some [] h = absurd (omega arith)
cut_some (b ∷ bs) h = ⊎_elim
    (λ (e : (eqb b equals ≡ true) × (b ≡ equals)). (rw e.0 refl, rw e.0 refl))
    (λ (e : (eqb b equals ≡ false) × (b ≢ equals)).
    let k = rw e.0 at h in
    let rest = cut_some bs (omega (arith, k)) in
    let n : 1 + position_or_len is_equals bs ≡ suc (position_or_len is_equals bs) = omega arith in
    let m : 1 + position_or_len is_equals bs + 1 ≡ suc (position_or_len is_equals bs + 1) = omega arith in
    (rw (e.0, n) (ap (λ t. b ∷ t) rest.0), rw (e.0, m) rest.1))
    (eqb_tells b equals)

-- ---- the options that were read

none_before : (vs : List (List ℕ)) → may_follow at_most_once vs ≡ true → vs ≡ []
none_before [] h = refl
none_before (v ∷ vs) h = cc

-- what one option more has for this
values_more : (v : Verb) (purpose : Purpose) (gs : List Given) (name : List ℕ) (form : Form) (b : Bool) → is_for purpose (named name (command_options v)) ≡ b → values_of v purpose (added gs name form) ≡ values_of v purpose gs ++ cond b (value_of form ∷ []) []
values_more v purpose gs name form b e = values_of-append v purpose gs _ ∙ ap (λ b. values_of v purpose gs ++ cond b (value_of form ∷ []) []) e

-- the options for something have these values more
abbrev More : Verb → List Given → (name : List ℕ) → Form → Purpose → List (List ℕ) → Type 0
More v gs name form purpose vs = values_of v purpose (added gs name form) ≡ values_of v purpose gs ++ vs

-- an option of this purpose, and what it has for each
record Adds (v : Verb) (gs : List Given) (o : CommandOption) (form : Form) : Type 0 where
  own : More v gs o.name form o.purpose (value_of form ∷ [])
  other : (p : Purpose) → same_purpose p o.purpose ≡ false → More v gs o.name form p []

adds : (v : Verb) (gs : List Given) (o : CommandOption) (form : Form) → named o.name (command_options v) ≡ Some o → Adds v gs o form
adds v gs o form h = record {
  own = values_more v o.purpose gs o.name form true (ap (is_for o.purpose) h ∙ same_itself o.purpose);
  other = λ p e. values_more v p gs o.name form false (ap (is_for p) h ∙ e);
}

unchanged : (v : Verb) (gs : List Given) (name : List ℕ) (form : Form) (p : Purpose) → More v gs name form p [] → values_of v p (added gs name form) ≡ values_of v p gs
unchanged v gs name form p m = m ∙ append-nil (values_of v p gs)

-- the values of an option that stands once
once : (v : Verb) (gs : List Given) (name : List ℕ) (form : Form) (p : Purpose) → More v gs name form p (value_of form ∷ []) → may_follow at_most_once (values_of v p gs) ≡ true → values_of v p (added gs name form) ≡ value_of form ∷ []
once v gs name form p m f = m ∙ ap (λ vs. vs ++ (value_of form ∷ [])) (none_before (values_of v p gs) f)

-- the value of an option beside those that were read
path_read : (v : Verb) (gs : List Given) (values : Values) (o : CommandOption) (form : Form) → o.purpose ≡ for_path → Adds v gs o form → HaveRead v gs values → HaveRead v (added gs o.name form) (record values { paths = values.paths ++ value_of form ∷ [] })
path_read v gs values o form is a h =
    let other : (p : Purpose) → same_purpose p for_path ≡ false → values_of v p (added gs o.name form) ≡ values_of v p gs = λ p e. unchanged v gs o.name form p (a.other p (ap (same_purpose p) is ∙ e)) in
    record {
      paths = ap (λ p. values_of v p (added gs o.name form)) (sym is) ∙ a.own ∙ ap (λ p. values_of v p gs ++ (value_of form ∷ [])) is ∙ ap (λ vs. vs ++ (value_of form ∷ [])) h.paths;
      steps = ap (map number_of) (other for_steps refl) ∙ h.steps;
      depths = ap (map number_of) (other for_depth refl) ∙ h.depths;
      flags = other for_ignoring refl ∙ h.flags;
    }

steps_read : (v : Verb) (gs : List Given) (values : Values) (form : Form) → Adds v gs steps_option form → HaveRead v gs values → may_follow at_most_once (values_of v for_steps gs) ≡ true
    → HaveRead v (added gs steps_option.name form) (record values { steps = Some (number_of (value_of form)) })
steps_read v gs values form a h f = record {
  paths = unchanged v gs steps_option.name form for_path (a.other for_path refl) ∙ h.paths;
  steps = ap (map number_of) (once v gs steps_option.name form for_steps a.own f);
  depths = ap (map number_of) (unchanged v gs steps_option.name form for_depth (a.other for_depth refl)) ∙ h.depths;
  flags = unchanged v gs steps_option.name form for_ignoring (a.other for_ignoring refl) ∙ h.flags;
}

depth_read : (v : Verb) (gs : List Given) (values : Values) (form : Form) → Adds v gs depth_option form → HaveRead v gs values → may_follow at_most_once (values_of v for_depth gs) ≡ true
    → HaveRead v (added gs depth_option.name form) (record values { depth = Some (number_of (value_of form)) })
depth_read v gs values form a h f = record {
  paths = unchanged v gs depth_option.name form for_path (a.other for_path refl) ∙ h.paths;
  steps = ap (map number_of) (unchanged v gs depth_option.name form for_steps (a.other for_steps refl)) ∙ h.steps;
  depths = ap (map number_of) (once v gs depth_option.name form for_depth a.own f);
  flags = unchanged v gs depth_option.name form for_ignoring (a.other for_ignoring refl) ∙ h.flags;
}

one_flag_read : (v : Verb) (gs : List Given) (values : Values) → Adds v gs ignore_option alone → HaveRead v gs values → may_follow at_most_once (values_of v for_ignoring gs) ≡ true
    → HaveRead v (added gs ignore_option.name alone) (record values { ignore_unknown = true })
one_flag_read v gs values a h f = record {
  paths = unchanged v gs ignore_option.name alone for_path (a.other for_path refl) ∙ h.paths;
  steps = ap (map number_of) (unchanged v gs ignore_option.name alone for_steps (a.other for_steps refl)) ∙ h.steps;
  depths = ap (map number_of) (unchanged v gs ignore_option.name alone for_depth (a.other for_depth refl)) ∙ h.depths;
  flags = once v gs ignore_option.name alone for_ignoring a.own f;
}

-- the same of what is put, by the command
path_purpose : (verb : VerbRead) → ((option_of verb read.File).purpose ≡ for_path) × ((option_of verb read.LongFile).purpose ≡ for_path)
path_purpose verb.Render = (refl, refl)
path_purpose verb.Compile = (refl, refl)

pub path_put : (verb : VerbRead) (values new : Values) (form : Form) → new ≡ record values { paths = values.paths ++ value_of form ∷ [] } → (gs : List Given) → HaveRead (seen_verb verb) gs values → MayFollow verb (option_of verb read.File) gs
    → HaveRead (seen_verb verb) (added gs (option_of verb read.File).name form) new
path_put verb values new form e gs h f =
    let o = option_of verb read.File in
    subst (HaveRead (seen_verb verb) (added gs o.name form)) (sym e) (path_read (seen_verb verb) gs values o form (path_purpose verb).0 (adds (seen_verb verb) gs o form f.is) h)

pub long_path_put : (verb : VerbRead) (values new : Values) (form : Form) → new ≡ record values { paths = values.paths ++ value_of form ∷ [] } → (gs : List Given) → HaveRead (seen_verb verb) gs values → MayFollow verb (option_of verb read.LongFile) gs
    → HaveRead (seen_verb verb) (added gs (option_of verb read.LongFile).name form) new
long_path_put verb values new form e gs h f =
    let o = option_of verb read.LongFile in
    subst (HaveRead (seen_verb verb) (added gs o.name form)) (sym e) (path_read (seen_verb verb) gs values o form (path_purpose verb).1 (adds (seen_verb verb) gs o form f.is) h)

-- where the text is a value
put_one : (P : Values → Type 0) (r : Option Values) (new : Values) (b : Bool) → r ≡ cond b (Some new) None → P new → IfSome r P
put_one P r new true e h = subst (λ s. IfSome s P) (sym e) h
put_one P r new false e h = subst (λ s. IfSome s P) (sym e) tt

pub steps_put : (verb : VerbRead) (values : Values) (form : Form) (r : Option Values) → r ≡ cond (is_steps (value_of form)) (Some (record values { steps = Some (number_of (value_of form)) })) None
    → IfSome r (λ new. (gs : List Given) → HaveRead (seen_verb verb) gs values → MayFollow verb steps_option gs → HaveRead (seen_verb verb) (added gs steps_option.name form) new)
steps_put verb values form r e =
    put_one _ r (record values { steps = Some (number_of (value_of form)) }) (is_steps (value_of form)) e (λ gs h f. steps_read (seen_verb verb) gs values form (adds (seen_verb verb) gs steps_option form f.is) h f.follows)

pub depth_put : (verb : VerbRead) (values : Values) (form : Form) (r : Option Values) → r ≡ cond (is_depth (value_of form)) (Some (record values { depth = Some (number_of (value_of form)) })) None
    → IfSome r (λ new. (gs : List Given) → HaveRead (seen_verb verb) gs values → MayFollow verb depth_option gs → HaveRead (seen_verb verb) (added gs depth_option.name form) new)
depth_put verb values form r e =
    put_one _ r (record values { depth = Some (number_of (value_of form)) }) (is_depth (value_of form)) e (λ gs h f. depth_read (seen_verb verb) gs values form (adds (seen_verb verb) gs depth_option form f.is) h f.follows)

pub flag_read : (verb : VerbRead) (gs : List Given) (values : Values) → HaveRead (seen_verb verb) gs values → MayFollow verb ignore_option gs → HaveRead (seen_verb verb) (added gs ignore_option.name alone) (record values { ignore_unknown = true })
flag_read verb gs values h f = one_flag_read (seen_verb verb) gs values (adds (seen_verb verb) gs ignore_option alone f.is) h f.follows

-- ---- one option more

abbrev Behind : Type 0
Behind = Form × ℕ × List (List ℕ)

behind_is : (t u : Behind) → Some t ≡ Some u → t ≡ u
behind_is t u e = ap (λ (r : Option Behind). unwrap_or r t) e

module _ (v : Verb) where
  -- what is asked behind the words of an option, or that they are wrong
  abbrev goes_on : List Given → (name : List ℕ) → CommandOption → Behind → Asked
  goes_on gs name o t = cond (may_stand o t.0) (asked_from v (t.1 + 1) (added gs name t.0) t.2) (wrong t.1)

  value_read : (n : ℕ) (gs : List Given) (name : List ℕ) (o : CommandOption) (words : List (List ℕ)) (t : Behind) → next_word n words ≡ Some t → asked_value v (n + 1) gs o name words ≡ goes_on gs name o t
  value_read n gs name o [] t e = cc
  value_read n gs name o (x ∷ words) t e = ap (goes_on gs name o) (behind_is (apart x, n + 1, words) t e)

  alone_read : (n : ℕ) (gs : List Given) (name : List ℕ) (o : CommandOption) (words : List (List ℕ)) (t : Behind) (b : Bool) → may_stand o alone ≡ b → cond b (Some (alone, n, words)) (next_word n words) ≡ Some t
      → cond b (asked_from v (n + 1) (added gs name alone) words) (asked_value v (n + 1) gs o name words) ≡ goes_on gs name o t
  alone_read n gs name o words t true h e = ap (λ b. cond b (asked_from v (n + 1) (added gs name alone) words) (wrong n)) (sym h) ∙ ap (goes_on gs name o) (behind_is (alone, n, words) t e)
  alone_read n gs name o words t false h e = value_read n gs name o words t e

  -- what is asked, by the option that the first word begins
  option_read : (n : ℕ) (gs : List Given) (name : List ℕ) (o : CommandOption) (value : Option (List ℕ)) (words : List (List ℕ)) (t : Behind) → words_behind o n value words ≡ Some t → next v n gs name words (Some o) value ≡ goes_on gs name o t
  option_read n gs name o (Some x) words t e = ap (goes_on gs name o) (behind_is (joined x, n, words) t e)
  option_read n gs name o None words t e = alone_read n gs name o words t (may_stand o alone) refl e

  pub one_option : (n : ℕ) (gs : List Given) (word : List ℕ) (words : List (List ℕ)) (o : CommandOption) (t : Behind) (b : Bool) → begun v gs (name_in word) ≡ Some o → words_behind o n (value_in word) words ≡ Some t → may_stand o t.0 ≡ b
      → asked_from v n gs (word ∷ words) ≡ cond b (asked_from v (t.1 + 1) (added gs (name_in word) t.0) t.2) (wrong t.1)
  one_option n gs word words o t b e f h =
      asked_next v n gs word words ∙ ap (λ o. next v n gs (name_in word) words o (value_in word)) e ∙ option_read n gs (name_in word) o (value_in word) words t f
      ∙ ap (λ c. cond c (asked_from v (t.1 + 1) (added gs (name_in word) t.0) t.2) (wrong t.1)) h

-- the options of a command that were read, as its words go on from here
pub record Reading (v : Verb) (values : Values) (n : ℕ) (words : List (List ℕ)) (asked : Asked) : Type 0 where
  pub given : List Given
  pub read : HaveRead v given values
  pub within : Within v given
  pub goes : asked_from v n given words ≡ asked

-- every option has a name
every_one : (v : Verb) → list_all (λ o. true) (command_options v) ≡ true
every_one rendering = refl
every_one compiling = refl

-- behind an option that was read, the words go on with its value
pub step_read : (v : VerbRead) (n : ℕ) (word : List ℕ) (words : List (List ℕ)) (asked : Asked) (o : CommandOption) (t : Behind) (values new : Values) (name : List ℕ) (value : Option (List ℕ)) → name ≡ name_in word → value ≡ value_in word
    → (r : Reading (seen_verb v) values n (word ∷ words) asked)
    → begun (seen_verb v) r.given name ≡ Some o → words_behind o n value words ≡ Some t → may_stand o t.0 ≡ true
    → ((hs : List Given) → HaveRead (seen_verb v) hs values → MayFollow v o hs → HaveRead (seen_verb v) (added hs o.name t.0) new)
    → Reading (seen_verb v) new (t.1 + 1) t.2 asked
step_read v n word words asked o t values new name value named_is value_is r starts behind good put =
    let w = seen_verb v in
    let begins : begun w r.given (name_in word) ≡ Some o = ap (begun w r.given) (sym named_is) ∙ starts in
    let at = begun_follows w r.given (name_in word) o begins in
    let is : o.name ≡ name_in word = (named_holds (λ (x : CommandOption). true) (name_in word) (command_options w) o at.found (every_one w)).1 in
    let found : named o.name (command_options w) ≡ Some o = ap (λ x. named x (command_options w)) is ∙ at.found in
    record {
      given = added r.given (name_in word) t.0;
      read = subst (λ (m : List ℕ). HaveRead w (added r.given m t.0) new) is (put r.given r.read (record { is = found; follows = at.follows }));
      within = added_within w r.given (name_in word) t.0 o r.within at;
      goes = sym (one_option w n r.given word words o t true begins (ap (λ x. words_behind o n x words) (sym value_is) ∙ behind) good) ∙ r.goes;
    }

-- an option behind which a value is missing
next_missing : (n : ℕ) (words : List (List ℕ)) → next_word n words ≡ None → words ≡ []
next_missing n [] e = refl
next_missing n (x ∷ words) e = cc

alone_missing : (n : ℕ) (o : CommandOption) (words : List (List ℕ)) (b : Bool) → may_stand o alone ≡ b → cond b (Some (alone, n, words)) (next_word n words) ≡ None → (may_stand o alone ≡ false) × (words ≡ [])
alone_missing n o words true h e = cc
alone_missing n o words false h e = (h, next_missing n words e)

missing_behind : (n : ℕ) (o : CommandOption) (value : Option (List ℕ)) (words : List (List ℕ)) → words_behind o n value words ≡ None → (value ≡ None) × ((may_stand o alone ≡ false) × (words ≡ []))
missing_behind n o (Some x) words e = cc
missing_behind n o None words e = (refl, alone_missing n o words (may_stand o alone) refl e)

pub value_missing : (v : Verb) (n : ℕ) (word : List ℕ) (words : List (List ℕ)) (asked : Asked) (o : CommandOption) (values : Values) (name : List ℕ) (value : Option (List ℕ)) → name ≡ name_in word → value ≡ value_in word
    → (r : Reading v values n (word ∷ words) asked) → begun v r.given name ≡ Some o → words_behind o n value words ≡ None → asked ≡ wrong (n + 1)
value_missing v n word words asked o values name value named_is value_is r starts behind =
    let (none, rest) = missing_behind n o value words behind in
    let (flag, empty) = rest in
    let begins : begun v r.given (name_in word) ≡ Some o = ap (begun v r.given) (sym named_is) ∙ starts in
    sym r.goes ∙ asked_next v n r.given word words ∙ (λ i. next v n r.given (name_in word) (empty i) (begins i) ((sym value_is ∙ none) i))
    ∙ ap (λ b. cond b (asked_from v (n + 1) (added r.given (name_in word) alone) []) (asked_value v (n + 1) r.given o (name_in word) [])) flag

-- an option that may not stand so
pub form_refused : (v : Verb) (n : ℕ) (word : List ℕ) (words : List (List ℕ)) (asked : Asked) (o : CommandOption) (t : Behind) (values : Values) (name : List ℕ) (value : Option (List ℕ)) → name ≡ name_in word → value ≡ value_in word
    → (r : Reading v values n (word ∷ words) asked) → begun v r.given name ≡ Some o → words_behind o n value words ≡ Some t → may_stand o t.0 ≡ false → asked ≡ wrong t.1
form_refused v n word words asked o t values name value named_is value_is r starts behind bad =
    sym r.goes ∙ one_option v n r.given word words o t false (ap (begun v r.given) (sym named_is) ∙ starts) (ap (λ x. words_behind o n x words) (sym value_is) ∙ behind) bad

-- no option was read yet
pub none_read : (v : Verb) (n : ℕ) (words : List (List ℕ)) → Reading v (record { paths = []; steps = None; depth = None; ignore_unknown = false }) n words (asked_from v n [] words)
none_read v n words = record { given = []; read = record { paths = refl; steps = refl; depths = refl; flags = refl }; within = none_within v; goes = refl }

-- where no words are left, a path is missing, or all is given
pub path_missing : (v : Verb) (n : ℕ) (values : Values) (asked : Asked) → Reading v values n [] asked → values.paths ≡ [] → asked ≡ wrong n
path_missing v n values asked r e = sym r.goes ∙ ap (λ b. cond b (asked_for (command_given v r.given)) (wrong n)) (none_given v r.given (r.read.paths ∙ e))

pub all_read : (v : Verb) (n : ℕ) (values : Values) (asked : Asked) (x : List ℕ) (xs : List (List ℕ)) → (r : Reading v values n [] asked) → values.paths ≡ x ∷ xs → asked ≡ asked_for (command_given v r.given)
all_read v n values asked x xs r e = sym r.goes ∙ ap (λ b. cond b (asked_for (command_given v r.given)) (wrong n)) (given_all v r.given x xs r.within (r.read.paths ∙ e))

-- the number of an option's last word, and the words behind
next_number : (n : ℕ) (words : List (List ℕ)) (t : Behind) → next_word n words ≡ Some t → t.1 + length t.2 ≡ n + length words
next_number n [] t e = cc
next_number n (v ∷ words) t e =
    let is : t.1 + length t.2 ≡ n + 1 + length words = sym (ap (λ (u : Behind). u.1 + length u.2) (behind_is (apart v, n + 1, words) t e)) in
    is ∙ omega arith

pub number_behind : (o : CommandOption) (n : ℕ) (value : Option (List ℕ)) (words : List (List ℕ)) (t : Behind) → words_behind o n value words ≡ Some t → t.1 + length t.2 ≡ n + length words
number_behind o n (Some v) words t e = sym (ap (λ (u : Behind). u.1 + length u.2) (behind_is (joined v, n, words) t e))
number_behind o n None words t e = by (may_stand o alone) e
  where
    by : (b : Bool) → cond b (Some (alone, n, words)) (next_word n words) ≡ Some t → t.1 + length t.2 ≡ n + length words
    by true f = sym (ap (λ (u : Behind). u.1 + length u.2) (behind_is (alone, n, words) t f))
    by false f = next_number n words t f

-- no more words stand behind an option than behind its first word
next_fewer : (n : ℕ) (words : List (List ℕ)) (t : Behind) → next_word n words ≡ Some t → length t.2 ≤ length words
next_fewer n [] t e = cc
next_fewer n (v ∷ words) t e =
    let is : length t.2 ≡ length words = sym (ap (λ (u : Behind). length u.2) (behind_is (apart v, n + 1, words) t e)) in
    omega arith

pub behind_fewer : (o : CommandOption) (n : ℕ) (value : Option (List ℕ)) (words : List (List ℕ)) (t : Behind) → words_behind o n value words ≡ Some t → length t.2 ≤ length words
behind_fewer o n (Some v) words t e =
    let is : length t.2 ≡ length words = sym (ap (λ (u : Behind). length u.2) (behind_is (joined v, n, words) t e)) in
    omega arith
behind_fewer o n None words t e = by (may_stand o alone) e
  where
    by : (b : Bool) → cond b (Some (alone, n, words)) (next_word n words) ≡ Some t → length t.2 ≤ length words
    by true f =
        let is : length t.2 ≡ length words = sym (ap (λ (u : Behind). length u.2) (behind_is (alone, n, words) t f)) in
        omega arith
    by false f = next_fewer n words t f

-- ---- all words

-- what they ask for is a request, or which word is wrong
pub asks_for : (words : List (List ℕ)) (r : Result CommandRead WordsStop) → Asks (asked words) r → AsksFor words r
asks_for words (Ok c) e = request_read words (command_of c) e
asks_for words (Err (stop.Wrong n)) e = wrong_words words n e
asks_for words (Err stop.Memory) e = tt
