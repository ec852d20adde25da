-- The number of the wrong word is that of the first at which no request goes on.
use Rattle.std.proofs.Common.{◌≡◌, ℕ, ◌+◌, ◌-◌, ◌≤◌, Bool, true, false, ◌&&◌, cond, List, [], ◌∷◌, ◌++◌, length, take, Option, Some, None, bytes_eq, codes, refl, subst, ap, sym, ◌∙◌, arith, append_assoc, append-nil, length-append}
use Rattle.std.proofs.Math.Seq.{take-append_seam, take-append-add}
use Rattle.std.specs.List.{list_all}
use Rattle.ytt_spec.proofs.Options.{Follows, asked_next, begun_follows, follows_begun, named_holds, next, values_of-append}
use Rattle.ytt_spec.proofs.WordsRead.{read_request, request_read, word_is}
use Rattle.ytt_spec.specs.Requests.{Begins, IsFirstWrong, IsRequest}
use Rattle.ytt_spec.specs.Words.{Asked, asked_for, wrong, Verb, rendering, compiling, Command, CommandOption, Given, Form, alone, apart, joined, Often, at_least_once, exactly_once, at_most_once, Purpose, for_path, for_steps, for_depth, for_ignoring, is_for, same_purpose, long_file_option, added, are_all_given, asked, asked_from, asked_value, begun, command_given, command_options, default_depth, default_steps, depth_option, file_option, ignore_option, may_follow, may_have, may_stand, name_in, named, one_file_option, one_long_file_option, render, steps_option, value_in, value_of, values_of, verb_of}

-- Of words from number n on, the one of number m is the first at which the reading can't end in a request.
pub record Stops (read : List (List ℕ) → Asked) (n : ℕ) (words : List (List ℕ)) (m : ℕ) : Type 0 where
  pub front : List (List ℕ)
  pub rest : List (List ℕ)
  pub split : words ≡ front ++ rest
  pub number : m ≡ n + length front
  pub more : List (List ℕ)
  pub command : Command
  pub goes_on : read (front ++ more) ≡ asked_for command
  pub refused : (word : List ℕ) (words : List (List ℕ)) → rest ≡ word ∷ words → (others : List (List ℕ)) → read (front ++ (word ∷ others)) ≡ wrong m

-- one word is read, and then the others
one_read : (read more : List (List ℕ) → Asked) (n : ℕ) (word : List ℕ) (words : List (List ℕ)) (m : ℕ) → ((others : List (List ℕ)) → read (word ∷ others) ≡ more others) → Stops more (n + 1) words m
    → Stops read n (word ∷ words) m
one_read read more n word words m same s = record {
  front = word ∷ s.front;
  rest = s.rest;
  split = ap (λ ws. word ∷ ws) s.split;
  number = s.number ∙ (omega arith);
  more = s.more;
  command = s.command;
  goes_on = same (s.front ++ s.more) ∙ s.goes_on;
  refused = λ w ws e others. same (s.front ++ (w ∷ others)) ∙ s.refused w ws e others;
}

-- the very first word is wrong, or missing, where some words are read to a request
here : (read : List (List ℕ) → Asked) (n : ℕ) (words : List (List ℕ)) (m : ℕ) (more : List (List ℕ)) (command : Command) → m ≡ n → read more ≡ asked_for command
    → ((word : List ℕ) (rest : List (List ℕ)) → words ≡ word ∷ rest → (others : List (List ℕ)) → read (word ∷ others) ≡ wrong m) → Stops read n words m
here read n words m more command is goes refused = record {
  front = [];
  rest = words;
  split = refl;
  number = is ∙ omega arith;
  more = more;
  command = command;
  goes_on = goes;
  refused = refused;
}

no_word : {P : Type 0} (word : List ℕ) (words : List (List ℕ)) → [] ≡ word ∷ words → P
no_word word words e = absurd (let f : ⊥ = cc in f)

-- ---- what completes a request, at each place

abbrev pub is_short : List (List ℕ) → Bool
is_short [] = true
is_short (v ∷ []) = true
is_short (v ∷ w ∷ vs) = false

-- an option with these values may still stand as often as it must
abbrev pub may_begin : Often → List (List ℕ) → Bool
may_begin at_least_once vs = true
may_begin exactly_once vs = is_short vs
may_begin at_most_once vs = is_short vs

-- how often the options of a command for something may stand
abbrev pub often_of : Verb → Purpose → Often
often_of rendering for_path = at_least_once
often_of compiling for_path = exactly_once
often_of verb _ = at_most_once

abbrev same_often : Often → Often → Bool
same_often at_least_once at_least_once = true
same_often exactly_once exactly_once = true
same_often at_most_once at_most_once = true
same_often _ _ = false

same_often_is : (a b : Often) → same_often a b ≡ true → a ≡ b
same_often_is at_least_once at_least_once h = refl
same_often_is at_least_once exactly_once h = cc
same_often_is at_least_once at_most_once h = cc
same_often_is exactly_once at_least_once h = cc
same_often_is exactly_once exactly_once h = refl
same_often_is exactly_once at_most_once h = cc
same_often_is at_most_once at_least_once h = cc
same_often_is at_most_once exactly_once h = cc
same_often_is at_most_once at_most_once h = refl

same_purpose_is : (p q : Purpose) → same_purpose p q ≡ true → p ≡ q
same_purpose_is for_path for_path h = refl
same_purpose_is for_path for_steps h = cc
same_purpose_is for_path for_depth h = cc
same_purpose_is for_path for_ignoring h = cc
same_purpose_is for_steps for_path h = cc
same_purpose_is for_steps for_steps h = refl
same_purpose_is for_steps for_depth h = cc
same_purpose_is for_steps for_ignoring h = cc
same_purpose_is for_depth for_path h = cc
same_purpose_is for_depth for_steps h = cc
same_purpose_is for_depth for_depth h = refl
same_purpose_is for_depth for_ignoring h = cc
same_purpose_is for_ignoring for_path h = cc
same_purpose_is for_ignoring for_steps h = cc
same_purpose_is for_ignoring for_depth h = cc
same_purpose_is for_ignoring for_ignoring h = refl

each_often : (verb : Verb) → list_all (λ o. same_often o.often (often_of verb o.purpose)) (command_options verb) ≡ true
each_often rendering = refl
each_often compiling = refl

no_values : (often : Often) → may_begin often [] ≡ true
no_values at_least_once = refl
no_values exactly_once = refl
no_values at_most_once = refl

begins_after : (often : Often) (vs : List (List ℕ)) (v : List ℕ) → may_follow often vs ≡ true → may_begin often (vs ++ (v ∷ [])) ≡ true
begins_after at_least_once vs v h = refl
begins_after exactly_once [] v h = refl
begins_after exactly_once (u ∷ us) v h = cc
begins_after at_most_once [] v h = refl
begins_after at_most_once (u ∷ us) v h = cc

-- some words go on to a request
abbrev Completes : (List (List ℕ) → Asked) → Type 0
Completes read = (more : List (List ℕ)) × (command : Command) × (read more ≡ asked_for command)

at_most : (vs : List (List ℕ)) → may_begin at_most_once vs ≡ true → may_have at_most_once vs ≡ true
at_most [] h = refl
at_most (v ∷ []) h = refl
at_most (v ∷ w ∷ vs) h = cc

module _ (verb : Verb) where
  often_is : (name : List ℕ) (o : CommandOption) → named name (command_options verb) ≡ Some o → o.often ≡ often_of verb o.purpose
  often_is name o h = same_often_is o.often (often_of verb o.purpose) (named_holds (λ (x : CommandOption). same_often x.often (often_of verb x.purpose)) name (command_options verb) o h (each_often verb)).0

  -- the options that were read are such
  abbrev pub Within : List Given → Type 0
  Within gs = (p : Purpose) → may_begin (often_of verb p) (values_of verb p gs) ≡ true

  pub none_within : Within []
  none_within p = no_values (often_of verb p)

  pub added_within : (gs : List Given) (name : List ℕ) (form : Form) (o : CommandOption) → Within gs → Follows verb gs name o → Within (added gs name form)
  added_within gs name form o w f p =
      subst (λ (vs : List (List ℕ)). may_begin (often_of verb p) vs ≡ true)
      (sym (values_of-append verb p gs (record { name = name; form = form } ∷ []) ∙ ap (λ r. values_of verb p gs ++ cond (is_for p r) (value_of form ∷ []) []) f.found))
      (by (same_purpose p o.purpose) refl)
    where
      by : (b : Bool) → same_purpose p o.purpose ≡ b → may_begin (often_of verb p) (values_of verb p gs ++ cond b (value_of form ∷ []) []) ≡ true
      by true e =
          subst (λ (q : Purpose). may_begin (often_of verb q) (values_of verb q gs ++ (value_of form ∷ [])) ≡ true) (sym (same_purpose_is p o.purpose e))
          (begins_after (often_of verb o.purpose) (values_of verb o.purpose gs) (value_of form) (subst (λ (t : Often). may_follow t (values_of verb o.purpose gs) ≡ true) (often_is name o f.found) f.follows))
      by false e = subst (λ (vs : List (List ℕ)). may_begin (often_of verb p) vs ≡ true) (sym (append-nil (values_of verb p gs))) (w p)

abbrev path_words : List (List ℕ)
path_words = file_option.name ∷ codes "a" ∷ []

-- the options that may be left out stand as often as they may
others_given : (gs : List Given) → Within rendering gs
    → list_all (λ o. may_have o.often (values_of rendering o.purpose gs)) (steps_option ∷ depth_option ∷ ignore_option ∷ []) ≡ true
others_given gs w = λ i. at_most (values_of rendering for_steps gs) (w for_steps) i && (at_most (values_of rendering for_depth gs) (w for_depth) i && (at_most (values_of rendering for_ignoring gs) (w for_ignoring) i && true))

-- a path completes them, where there is none
render_completes : (n : ℕ) (gs : List Given) → Within rendering gs → Completes (asked_from rendering n gs)
render_completes n gs w = by (values_of rendering for_path gs) refl
  where
    by : (vs : List (List ℕ)) → values_of rendering for_path gs ≡ vs → Completes (asked_from rendering n gs)
    by [] e =
        let follows : Follows rendering gs file_option.name file_option = record { found = refl; follows = refl } in
        let all = added gs file_option.name (apart (codes "a")) in
        let paths : values_of rendering for_path all ≡ codes "a" ∷ [] = values_of-append rendering for_path gs _ ∙ ap (λ vs. vs ++ (codes "a" ∷ [])) e in
        let others = others_given all (added_within rendering gs file_option.name (apart (codes "a")) file_option w follows) in (
          path_words,
          command_given rendering all,
          asked_next rendering n gs file_option.name (codes "a" ∷ []) ∙ ap (λ o. next rendering n gs file_option.name (codes "a" ∷ []) o None) (follows_begun rendering gs file_option.name file_option follows)
              ∙ (λ i. cond (may_have at_least_once (paths i) && (may_have at_least_once (paths i) && others i)) (asked_for (command_given rendering all)) (wrong (n + 1 + 1))),
        )
    by (v ∷ []) e = ([], command_given rendering gs, λ i. cond (may_have at_least_once (e i) && (may_have at_least_once (e i) && others_given gs w i)) (asked_for (command_given rendering gs)) (wrong n))
    by (v ∷ u ∷ vs) e = ([], command_given rendering gs, λ i. cond (may_have at_least_once (e i) && (may_have at_least_once (e i) && others_given gs w i)) (asked_for (command_given rendering gs)) (wrong n))

flag_given : (gs : List Given) → Within compiling gs → list_all (λ o. may_have o.often (values_of compiling o.purpose gs)) (ignore_option ∷ []) ≡ true
flag_given gs w = λ i. at_most (values_of compiling for_ignoring gs) (w for_ignoring) i && true

compile_completes : (n : ℕ) (gs : List Given) → Within compiling gs → Completes (asked_from compiling n gs)
compile_completes n gs w = by (values_of compiling for_path gs) refl
  where
    by : (vs : List (List ℕ)) → values_of compiling for_path gs ≡ vs → Completes (asked_from compiling n gs)
    by [] e =
        let follows : Follows compiling gs file_option.name one_file_option = record { found = refl; follows = ap (may_follow exactly_once) e } in
        let all = added gs file_option.name (apart (codes "a")) in
        let paths : values_of compiling for_path all ≡ codes "a" ∷ [] = values_of-append compiling for_path gs _ ∙ ap (λ vs. vs ++ (codes "a" ∷ [])) e in
        let others = flag_given all (added_within compiling gs file_option.name (apart (codes "a")) one_file_option w follows) in (
          path_words,
          command_given compiling all,
          asked_next compiling n gs file_option.name (codes "a" ∷ []) ∙ ap (λ o. next compiling n gs file_option.name (codes "a" ∷ []) o None) (follows_begun compiling gs file_option.name one_file_option follows)
              ∙ (λ i. cond (may_have exactly_once (paths i) && (may_have exactly_once (paths i) && others i)) (asked_for (command_given compiling all)) (wrong (n + 1 + 1))),
        )
    by (v ∷ []) e = ([], command_given compiling gs, λ i. cond (may_have exactly_once (e i) && (may_have exactly_once (e i) && flag_given gs w i)) (asked_for (command_given compiling gs)) (wrong n))
    by (v ∷ u ∷ vs) e = let never : false ≡ true = sym (ap is_short e) ∙ w for_path in cc

-- with a path all are given that must be, and without one not
pub none_given : (verb : Verb) (gs : List Given) → values_of verb for_path gs ≡ [] → are_all_given verb gs ≡ false
none_given rendering gs e = λ i. may_have at_least_once (e i) && (may_have at_least_once (e i) && list_all (λ o. may_have o.often (values_of rendering o.purpose gs)) (steps_option ∷ depth_option ∷ ignore_option ∷ []))
none_given compiling gs e = λ i. may_have exactly_once (e i) && (may_have exactly_once (e i) && list_all (λ o. may_have o.often (values_of compiling o.purpose gs)) (ignore_option ∷ []))

pub given_all : (verb : Verb) (gs : List Given) (x : List ℕ) (xs : List (List ℕ)) → Within verb gs → values_of verb for_path gs ≡ x ∷ xs → are_all_given verb gs ≡ true
given_all rendering gs x [] w e = λ i. may_have at_least_once (e i) && (may_have at_least_once (e i) && others_given gs w i)
given_all rendering gs x (y ∷ ys) w e = λ i. may_have at_least_once (e i) && (may_have at_least_once (e i) && others_given gs w i)
given_all compiling gs x [] w e = λ i. may_have exactly_once (e i) && (may_have exactly_once (e i) && flag_given gs w i)
given_all compiling gs x (y ∷ ys) w e = let never : false ≡ true = sym (ap is_short e) ∙ w for_path in cc

completes : (verb : Verb) (n : ℕ) (gs : List Given) → Within verb gs → Completes (asked_from verb n gs)
completes rendering n gs w = render_completes n gs w
completes compiling n gs w = compile_completes n gs w

-- each option that is no flag has a value
abbrev HasSample : CommandOption → Type 0
HasSample o = (value : List ℕ) × (may_stand o (apart value) ≡ true)

a_sample : (o p : CommandOption) (value : List ℕ) → p ≡ o → may_stand p (apart value) ≡ true → HasSample o
a_sample o p value is h = (value, ap (λ (x : CommandOption). may_stand x (apart value)) (sym is) ∙ h)

no_sample : (o : CommandOption) → ignore_option ≡ o → may_stand o alone ≡ false → HasSample o
no_sample o is f = let never : true ≡ false = ap (λ (x : CommandOption). may_stand x alone) is ∙ f in cc

sample : (verb : Verb) (name : List ℕ) (o : CommandOption) → named name (command_options verb) ≡ Some o → may_stand o alone ≡ false → HasSample o
sample rendering name o h f = by (bytes_eq name file_option.name) (bytes_eq name long_file_option.name) (bytes_eq name steps_option.name) (bytes_eq name depth_option.name) (bytes_eq name ignore_option.name) h
  where
    by : (a l b c d : Bool) → cond a (Some file_option) (cond l (Some long_file_option) (cond b (Some steps_option) (cond c (Some depth_option) (cond d (Some ignore_option) None)))) ≡ Some o → HasSample o
    by true l b c d e = a_sample o file_option (codes "a") (cc) refl
    by false true b c d e = a_sample o long_file_option (codes "a") (cc) refl
    by false false true c d e = a_sample o steps_option (codes "1") (cc) refl
    by false false false true d e = a_sample o depth_option (codes "1") (cc) refl
    by false false false false true e = let is : ignore_option ≡ o = cc in no_sample o is f
    by false false false false false e = cc
sample compiling name o h f = by (bytes_eq name file_option.name) (bytes_eq name long_file_option.name) (bytes_eq name ignore_option.name) h
  where
    by : (a l d : Bool) → cond a (Some one_file_option) (cond l (Some one_long_file_option) (cond d (Some ignore_option) None)) ≡ Some o → HasSample o
    by true l d e = a_sample o one_file_option (codes "a") (cc) refl
    by false true d e = a_sample o one_long_file_option (codes "a") (cc) refl
    by false false true e = let is : ignore_option ≡ o = cc in no_sample o is f
    by false false false e = cc

module _ (verb : Verb) where
  completes_value : (n : ℕ) (gs : List Given) (o : CommandOption) (name : List ℕ) → Within verb gs → Follows verb gs name o → may_stand o alone ≡ false → Completes (asked_value verb n gs o name)
  completes_value n gs o name w follows no_flag =
      let v = sample verb name o follows.found no_flag in
      let c = completes verb (n + 1) (added gs name (apart v.0)) (added_within verb gs name (apart v.0) o w follows) in
      (v.0 ∷ c.0, c.1, ap (λ b. cond b (asked_from verb (n + 1) (added gs name (apart v.0)) c.0) (wrong n)) v.1 ∙ c.2)

  -- ---- by the tests that are made of a word

  stops_here : (read : List (List ℕ) → Asked) (n : ℕ) (words : List (List ℕ)) (m : ℕ) → Completes read → m ≡ n
      → ((word : List ℕ) (rest : List (List ℕ)) → words ≡ word ∷ rest → (others : List (List ℕ)) → read (word ∷ others) ≡ wrong m) → Stops read n words m
  stops_here read n words m c is refused = here read n words m c.0 c.1 is c.2 refused

  -- where the first word is refused, whatever stands behind it
  refused_here : (read : List (List ℕ) → Asked) (n : ℕ) (word : List ℕ) (words : List (List ℕ)) (m : ℕ) → Completes read → m ≡ n → ((others : List (List ℕ)) → read (word ∷ others) ≡ wrong n) → Stops read n (word ∷ words) m
  refused_here read n word words m c is refused =
      stops_here read n (word ∷ words) m c is (λ w ws f others. let same_word : w ≡ word = cc in ap (λ v. read (v ∷ others)) same_word ∙ refused others ∙ ap wrong (sym is))

  -- the words that an option begins, by what is read next verb
  by_start : (n : ℕ) (gs : List Given) (word : List ℕ) (others : List (List ℕ)) (o : Option CommandOption) (v : Option (List ℕ)) → begun verb gs (name_in word) ≡ o → value_in word ≡ v → asked_from verb n gs (word ∷ others) ≡ next verb n gs (name_in word) others o v
  by_start n gs word others o v starts cut = asked_next verb n gs word others ∙ (λ i. next verb n gs (name_in word) others (starts i) (cut i))

  by_joined : (n : ℕ) (gs : List Given) (o : CommandOption) (word value : List ℕ) (words : List (List ℕ)) (m : ℕ) (b : Bool) → Within verb gs → begun verb gs (name_in word) ≡ Some o → value_in word ≡ Some value
      → (asked_from verb (n + 1) (added gs (name_in word) (joined value)) words ≡ wrong m → Stops (asked_from verb (n + 1) (added gs (name_in word) (joined value))) (n + 1) words m)
      → may_stand o (joined value) ≡ b → cond b (asked_from verb (n + 1) (added gs (name_in word) (joined value)) words) (wrong n) ≡ wrong m → Stops (asked_from verb n gs) n (word ∷ words) m
  by_joined n gs o word value words m true w starts cut read h e =
      one_read (asked_from verb n gs) (asked_from verb (n + 1) (added gs (name_in word) (joined value))) n word words m
      (λ others. by_start n gs word others (Some o) (Some value) starts cut ∙ ap (λ t. cond t (asked_from verb (n + 1) (added gs (name_in word) (joined value)) others) (wrong n)) h) (read e)
  by_joined n gs o word value words m false w starts cut read h e =
      let is : m ≡ n = cc in
      refused_here (asked_from verb n gs) n word words m (completes verb n gs w) is
      (λ others. by_start n gs word others (Some o) (Some value) starts cut ∙ ap (λ t. cond t (asked_from verb (n + 1) (added gs (name_in word) (joined value)) others) (wrong n)) h)

  by_alone : (n : ℕ) (gs : List Given) (o : CommandOption) (word : List ℕ) (words : List (List ℕ)) (m : ℕ) (b : Bool) → begun verb gs (name_in word) ≡ Some o → value_in word ≡ None
      → (asked_from verb (n + 1) (added gs (name_in word) alone) words ≡ wrong m → Stops (asked_from verb (n + 1) (added gs (name_in word) alone)) (n + 1) words m)
      → (may_stand o alone ≡ false → asked_value verb (n + 1) gs o (name_in word) words ≡ wrong m → Stops (asked_value verb (n + 1) gs o (name_in word)) (n + 1) words m)
      → may_stand o alone ≡ b → cond b (asked_from verb (n + 1) (added gs (name_in word) alone) words) (asked_value verb (n + 1) gs o (name_in word) words) ≡ wrong m → Stops (asked_from verb n gs) n (word ∷ words) m
  by_alone n gs o word words m true starts cut read read_value h e =
      one_read (asked_from verb n gs) (asked_from verb (n + 1) (added gs (name_in word) alone)) n word words m
      (λ others. by_start n gs word others (Some o) None starts cut ∙ ap (λ t. cond t (asked_from verb (n + 1) (added gs (name_in word) alone) others) (asked_value verb (n + 1) gs o (name_in word) others)) h) (read e)
  by_alone n gs o word words m false starts cut read read_value h e =
      one_read (asked_from verb n gs) (asked_value verb (n + 1) gs o (name_in word)) n word words m
      (λ others. by_start n gs word others (Some o) None starts cut ∙ ap (λ t. cond t (asked_from verb (n + 1) (added gs (name_in word) alone) others) (asked_value verb (n + 1) gs o (name_in word) others)) h) (read_value h e)

  by_next : (n : ℕ) (gs : List Given) (word : List ℕ) (words : List (List ℕ)) (m : ℕ) (o : Option CommandOption) (v : Option (List ℕ)) → Within verb gs → begun verb gs (name_in word) ≡ o → value_in word ≡ v
      → ((form : Form) → Within verb (added gs (name_in word) form) → asked_from verb (n + 1) (added gs (name_in word) form) words ≡ wrong m → Stops (asked_from verb (n + 1) (added gs (name_in word) form)) (n + 1) words m)
      → ((q : CommandOption) → Follows verb gs (name_in word) q → may_stand q alone ≡ false → asked_value verb (n + 1) gs q (name_in word) words ≡ wrong m → Stops (asked_value verb (n + 1) gs q (name_in word)) (n + 1) words m)
      → next verb n gs (name_in word) words o v ≡ wrong m → Stops (asked_from verb n gs) n (word ∷ words) m
  by_next n gs word words m None v w starts cut read read_value e =
      let is : m ≡ n = cc in
      refused_here (asked_from verb n gs) n word words m (completes verb n gs w) is (λ others. by_start n gs word others None v starts cut)
  by_next n gs word words m (Some o) (Some value) w starts cut read read_value e =
      let follows = begun_follows verb gs (name_in word) o starts in
      by_joined n gs o word value words m (may_stand o (joined value)) w starts cut (read (joined value) (added_within verb gs (name_in word) (joined value) o w follows)) refl e
  by_next n gs word words m (Some o) None w starts cut read read_value e =
      let follows = begun_follows verb gs (name_in word) o starts in
      by_alone n gs o word words m (may_stand o alone) starts cut (read alone (added_within verb gs (name_in word) alone o w follows)) (read_value o follows) refl e

  at_value : (n : ℕ) (gs : List Given) (o : CommandOption) (name value : List ℕ) (words : List (List ℕ)) (m : ℕ) (b : Bool) → Completes (asked_value verb n gs o name)
      → (asked_from verb (n + 1) (added gs name (apart value)) words ≡ wrong m → Stops (asked_from verb (n + 1) (added gs name (apart value))) (n + 1) words m)
      → may_stand o (apart value) ≡ b → cond b (asked_from verb (n + 1) (added gs name (apart value)) words) (wrong n) ≡ wrong m → Stops (asked_value verb n gs o name) n (value ∷ words) m
  at_value n gs o name value words m true c read h e =
      one_read (asked_value verb n gs o name) (asked_from verb (n + 1) (added gs name (apart value))) n value words m (λ others. ap (λ t. cond t (asked_from verb (n + 1) (added gs name (apart value)) others) (wrong n)) h) (read e)
  at_value n gs o name value words m false c read h e =
      let is : m ≡ n = cc in
      refused_here (asked_value verb n gs o name) n value words m c is (λ others. ap (λ t. cond t (asked_from verb (n + 1) (added gs name (apart value)) others) (wrong n)) h)

  no_more : (n : ℕ) (gs : List Given) (m : ℕ) (b : Bool) → Within verb gs → cond b (asked_for (command_given verb gs)) (wrong n) ≡ wrong m → Stops (asked_from verb n gs) n [] m
  no_more n gs m true w e = cc
  no_more n gs m false w e = let is : m ≡ n = cc in stops_here (asked_from verb n gs) n [] m (completes verb n gs w) is (λ word ws f. no_word word ws f)

  mutual
    options_stop : (n : ℕ) (gs : List Given) (words : List (List ℕ)) (m : ℕ) → Within verb gs → asked_from verb n gs words ≡ wrong m → Stops (asked_from verb n gs) n words m
    options_stop n gs [] m w e = no_more n gs m (are_all_given verb gs) w e
    options_stop n gs (word ∷ words) m w e =
        by_next n gs word words m (begun verb gs (name_in word)) (value_in word) w refl refl (λ form. options_stop (n + 1) (added gs (name_in word) form) words m) (λ o follows no_flag. value_stops (n + 1) gs o (name_in word) words m w follows no_flag)
        (sym (asked_next verb n gs word words) ∙ e)

    value_stops : (n : ℕ) (gs : List Given) (o : CommandOption) (name : List ℕ) (words : List (List ℕ)) (m : ℕ) → Within verb gs → Follows verb gs name o → may_stand o alone ≡ false → asked_value verb n gs o name words ≡ wrong m
        → Stops (asked_value verb n gs o name) n words m
    value_stops n gs o name [] m w follows no_flag e =
        let is : m ≡ n = cc in
        stops_here (asked_value verb n gs o name) n [] m (completes_value n gs o name w follows no_flag) is (λ word ws f. no_word word ws f)
    value_stops n gs o name (value ∷ words) m w follows no_flag e =
        at_value n gs o name value words m (may_stand o (apart value)) (completes_value n gs o name w follows no_flag) (options_stop (n + 1) (added gs name (apart value)) words m (added_within verb gs name (apart value) o w follows)) refl e

-- ---- the command

abbrev path_command : Command
path_command = render (record { paths = codes "a" ∷ []; budget = record { steps = default_steps; depth = default_depth }; ignore_unknown = false })

-- what is asked by the command of the first word
abbrev by_verb : (word : List ℕ) → List (List ℕ) → Option Verb → Asked
by_verb word words (Some verb) = asked_from verb 2 [] words
by_verb word words None = asked_from rendering 1 [] (word ∷ words)

asked_by : (word : List ℕ) (words : List (List ℕ)) (o : Option Verb) → verb_of word ≡ o → asked (word ∷ words) ≡ by_verb word words o
asked_by word words o h = by (verb_of word) ∙ ap (by_verb word words) h
  where
    by : (p : Option Verb) → elim p [ Some verb ↦ asked_from verb 2 [] words | None ↦ asked_from rendering 1 [] (word ∷ words) ] ≡ by_verb word words p
    by None = refl
    by (Some verb) = refl

-- behind a first word that is no command all is read as options
without_command : (word : List ℕ) (words : List (List ℕ)) (m : ℕ) → verb_of word ≡ None → (front : List (List ℕ)) (s : Stops (asked_from rendering 1 []) 1 (word ∷ words) m) → s.front ≡ front → Stops asked 1 (word ∷ words) m
without_command word words m h [] s f =
    let is : m ≡ 1 = s.number ∙ ap (λ l. 1 + length l) f in
    here asked 1 (word ∷ words) m path_words path_command is refl
    (λ w ws e others.
    let same : w ≡ word = cc in
    let rest : s.rest ≡ w ∷ words = sym (s.split ∙ ap (λ l. l ++ s.rest) f) ∙ ap (λ v. v ∷ words) (sym same) in
    asked_by w others None (ap verb_of same ∙ h) ∙ sym (ap (λ l. asked_from rendering 1 [] (l ++ (w ∷ others))) f) ∙ s.refused w words rest others)
without_command word words m h (x ∷ front) s f =
    let split : word ∷ words ≡ x ∷ (front ++ s.rest) = s.split ∙ ap (λ l. l ++ s.rest) f in
    let same : x ≡ word = cc in
    let read : (others : List (List ℕ)) → asked (s.front ++ others) ≡ asked_from rendering 1 [] (s.front ++ others) = λ others.
    ap (λ l. asked (l ++ others)) f ∙ asked_by x (front ++ others) None (ap verb_of same ∙ h) ∙ sym (ap (λ l. asked_from rendering 1 [] (l ++ others)) f) in
    record {
      front = s.front;
      rest = s.rest;
      split = s.split;
      number = s.number;
      more = s.more;
      command = s.command;
      goes_on = read s.more ∙ s.goes_on;
      refused = λ w ws e others. read (w ∷ others) ∙ s.refused w ws e others;
    }

by_command : (word : List ℕ) (words : List (List ℕ)) (m : ℕ) (o : Option Verb) → verb_of word ≡ o → by_verb word words o ≡ wrong m → Stops asked 1 (word ∷ words) m
by_command word words m (Some verb) h e = one_read asked (asked_from verb 2 []) 1 word words m (λ others. asked_by word others (Some verb) h) (options_stop verb 2 [] words m (none_within verb) e)
by_command word words m None h e = let s = options_stop rendering 1 [] (word ∷ words) m (none_within rendering) e in without_command word words m h s.front s refl

asked_stops : (words : List (List ℕ)) (m : ℕ) → asked words ≡ wrong m → Stops asked 1 words m
asked_stops [] m e = let is : m ≡ 1 = cc in here asked 1 [] m path_words path_command is refl (λ w ws f. no_word w ws f)
asked_stops (word ∷ words) m e = by_command word words m (verb_of word) refl (sym (asked_by word words (verb_of word) refl) ∙ e)

front_taken : (words front rest : List (List ℕ)) (n : ℕ) → words ≡ front ++ rest → n ≡ 1 + length front → take (n - 1) words ≡ front
front_taken words front rest n split number =
    let same : n - 1 ≡ length front = omega arith in
    (λ i. take (same i) (split i)) ∙ take-append_seam front rest

one_more_taken : (words front ws : List (List ℕ)) (w : List ℕ) (n : ℕ) → words ≡ front ++ (w ∷ ws) → n ≡ 1 + length front → take n words ≡ front ++ (w ∷ [])
one_more_taken words front ws w n split number =
    let same : n ≡ length front + 1 = omega arith in
    (λ i. take (same i) (split i)) ∙ take-append-add front (w ∷ ws) 1

none_begins : (words : List (List ℕ)) (n : ℕ) (s : Stops asked 1 words n) (rest : List (List ℕ)) → s.rest ≡ rest → n ≤ length words → Begins (take n words) → ⊥
none_begins words n s [] r l b =
    let all : words ≡ s.front = s.split ∙ ap (λ ws. s.front ++ ws) r ∙ append-nil s.front in
    let long : length words ≡ length s.front = ap length all in
    let number = s.number in
    absurd (omega arith)
none_begins words n s (w ∷ ws) r l b =
    let taken : take n words ≡ s.front ++ (w ∷ []) = one_more_taken words s.front ws w n (s.split ∙ ap (λ rest. s.front ++ rest) r) s.number in
    let goes = read_request (take n words ++ b.more) b.command b.request in
    let stops : asked (take n words ++ b.more) ≡ wrong n = ap (λ front. asked (front ++ b.more)) taken ∙ ap asked (append_assoc s.front (w ∷ []) b.more) ∙ s.refused w ws r b.more in
    cc

-- the number is at most the one behind the last word
number_within : (words front rest : List (List ℕ)) (n : ℕ) → words ≡ front ++ rest → n ≡ 1 + length front → n ≤ length words + 1
number_within words front rest n split number =
    let long : length words ≡ length front + length rest = ap length split ∙ length-append front rest in
    omega arith

-- words of which one is wrong are no request, since each request is read
is_no_request : (words : List (List ℕ)) (n : ℕ) → asked words ≡ wrong n → (command : Command) → IsRequest words command → ⊥
is_no_request words n e command r = let reads = read_request words command r in cc

-- the number that is told is that of the first wrong word
pub wrong_words : (words : List (List ℕ)) (n : ℕ) → asked words ≡ wrong n → IsFirstWrong words n
wrong_words words n e =
    let s = asked_stops words n e in
    record {
      before = record {
        more = s.more;
        command = s.command;
        request = request_read (take (n - 1) words ++ s.more) s.command (ap (λ front. asked (front ++ s.more)) (front_taken words s.front s.rest n s.split s.number) ∙ s.goes_on);
      };
      at = none_begins words n s s.rest refl;
      within = number_within words s.front s.rest n s.split s.number;
      no_request = is_no_request words n e;
    }
