-- The options of the command line: how a word is cut, which option it begins, and what may follow.
use Rattle.std.proofs.Common.{◌≡◌, ◌≢◌, ℕ, ◌+◌, Bool, true, false, cond, eqb, List, [], ◌∷◌, ◌++◌, Option, Some, None, is_none, option_and_then, bytes_eq, refl, ap, sym, subst, ◌∙◌, ⊎_elim}
use Rattle.std.proofs.lemmas.Bool.Decides.{eqb_tells}
use Rattle.std.proofs.lemmas.Slice.Eq.{bytes_eq-Decides}
use Rattle.std.specs.Cmp.{first_so, second_so}
use Rattle.std.specs.List.{list_all}
use Rattle.ytt_spec.specs.Words.{Asked, wrong, Verb, rendering, compiling, CommandOption, Given, alone, apart, joined, Often, at_least_once, exactly_once, at_most_once, Purpose, is_for, Takes, a_value, no_value, added, asked_from, asked_value, begun, command_options, equals, is_flag, may_follow, may_have, may_stand, name_in, named, takes_text, value_in, value_of, values_of}

-- ---- a word, cut at its first `=`

pub cut_back : (word value : List ℕ) → value_in word ≡ Some value → name_in word ++ equals ∷ value ≡ word
cut_back [] value h = cc
cut_back (b ∷ bs) value h = ⊎_elim
    (λ (e : (eqb b equals ≡ true) × (b ≡ equals)). let k : Some bs ≡ Some value = rw e.0 at h in let same : value ≡ bs = cc in rw e.0 (λ i. sym e.1 i ∷ same i))
    (λ (e : (eqb b equals ≡ false) × (b ≢ equals)). let k : value_in bs ≡ Some value = rw e.0 at h in rw e.0 (ap (λ s. b ∷ s) (cut_back bs value k)))
    (eqb_tells b equals)

pub cut_whole : (word : List ℕ) → value_in word ≡ None → name_in word ≡ word
cut_whole [] h = refl
cut_whole (b ∷ bs) h = ⊎_elim
    (λ (e : (eqb b equals ≡ true) × (b ≡ equals)). let k : Some bs ≡ None = rw e.0 at h in cc)
    (λ (e : (eqb b equals ≡ false) × (b ≢ equals)). let k : value_in bs ≡ None = rw e.0 at h in rw e.0 (ap (λ s. b ∷ s) (cut_whole bs k)))
    (eqb_tells b equals)

-- a name without `=` and a value behind one are cut there
pub cut_joined : (name value : List ℕ) → value_in name ≡ None → (name_in (name ++ equals ∷ value) ≡ name) × (value_in (name ++ equals ∷ value) ≡ Some value)
cut_joined [] value h = (refl, refl)
cut_joined (b ∷ bs) value h = ⊎_elim
    (λ (e : (eqb b equals ≡ true) × (b ≡ equals)). let k : Some bs ≡ None = rw e.0 at h in cc)
    (λ (e : (eqb b equals ≡ false) × (b ≢ equals)). let k : value_in bs ≡ None = rw e.0 at h in let rest = cut_joined bs value k in (rw e.0 (ap (λ s. b ∷ s) rest.0), rw e.0 rest.1))
    (eqb_tells b equals)

-- ---- the option of a name

pub same : (word other : List ℕ) → bytes_eq word other ≡ true → word ≡ other
same word other h = (bytes_eq-Decides word other).0 h

-- what holds of all options holds of the one of this name
pub named_holds : (test : CommandOption → Bool) (name : List ℕ) (os : List CommandOption) (o : CommandOption) → named name os ≡ Some o → list_all test os ≡ true → (test o ≡ true) × (o.name ≡ name)
named_holds test name [] o h all = cc
named_holds test name (p ∷ ps) o h all = by (bytes_eq name p.name) refl (λ k. named_holds test name ps o k (second_so (test p) (list_all test ps) all)) h
  where
    by : (b : Bool) → bytes_eq name p.name ≡ b → (named name ps ≡ Some o → (test o ≡ true) × (o.name ≡ name)) → cond b (Some p) (named name ps) ≡ Some o → (test o ≡ true) × (o.name ≡ name)
    by true e others k = let is : p ≡ o = cc in (subst (λ (x : CommandOption). test x ≡ true) is (first_so (test p) (list_all test ps) all), subst (λ (x : CommandOption). x.name ≡ name) is (sym (same name p.name e)))
    by false e others k = others k

names_hold_none : (verb : Verb) → list_all (λ o. is_none (value_in o.name)) (command_options verb) ≡ true
names_hold_none rendering = refl
names_hold_none compiling = refl

module _ (verb : Verb) where
  -- no option's name holds `=`
  pub no_equals : (name : List ℕ) (o : CommandOption) → named name (command_options verb) ≡ Some o → value_in name ≡ None
  no_equals name o h =
      let found = named_holds (λ (x : CommandOption). is_none (value_in x.name)) name (command_options verb) o h (names_hold_none verb) in
      is_None (value_in name) (ap (λ n. is_none (value_in n)) (sym found.1) ∙ found.0)
    where
      is_None : (v : Option (List ℕ)) → is_none v ≡ true → v ≡ None
      is_None None h = refl
      is_None (Some x) h = cc

  -- what takes a value is no flag
  pub no_flag : (o : CommandOption) (value : List ℕ) → may_stand o (apart value) ≡ true → may_stand o alone ≡ false
  no_flag o value h = by o.takes h
    where
      by : (t : Takes) → takes_text t value ≡ true → is_flag t ≡ false
      by no_value h = cc
      by (a_value is_value) h = refl

  -- ---- the option that a word begins

  -- where it may stand
  pub record Follows (gs : List Given) (name : List ℕ) (o : CommandOption) : Type 0 where
    pub found : named name (command_options verb) ≡ Some o
    pub follows : may_follow o.often (values_of verb o.purpose gs) ≡ true

  by_follows : (gs : List Given) (name : List ℕ) (p o : CommandOption) (b : Bool) → named name (command_options verb) ≡ Some p → may_follow p.often (values_of verb p.purpose gs) ≡ b → cond b (Some p) None ≡ Some o → Follows gs name o
  by_follows gs name p o true e t j = let is : p ≡ o = cc in subst (Follows gs name) is (record { found = e; follows = t })
  by_follows gs name p o false e t j = cc

  by_named : (gs : List Given) (name : List ℕ) (o : CommandOption) (r : Option CommandOption) → named name (command_options verb) ≡ r → option_and_then (λ p. cond (may_follow p.often (values_of verb p.purpose gs)) (Some p) None) r ≡ Some o
      → Follows gs name o
  by_named gs name o None e k = cc
  by_named gs name o (Some p) e k = by_follows gs name p o (may_follow p.often (values_of verb p.purpose gs)) e refl k

  pub begun_follows : (gs : List Given) (name : List ℕ) (o : CommandOption) → begun verb gs name ≡ Some o → Follows gs name o
  begun_follows gs name o h = by_named gs name o (named name (command_options verb)) refl h

  -- and the other way round
  pub follows_begun : (gs : List Given) (name : List ℕ) (o : CommandOption) → Follows gs name o → begun verb gs name ≡ Some o
  follows_begun gs name o f = ap (option_and_then (λ p. cond (may_follow p.often (values_of verb p.purpose gs)) (Some p) None)) f.found ∙ ap (λ b. cond b (Some o) None) f.follows

  -- ---- what is read next

  -- by the option that the first word begins, and the value behind its `=`
  abbrev pub next : ℕ → List Given → (name : List ℕ) → List (List ℕ) → Option CommandOption → Option (List ℕ) → Asked
  next n gs name words None v = wrong n
  next n gs name words (Some o) (Some value) = cond (may_stand o (joined value)) (asked_from verb (n + 1) (added gs name (joined value)) words) (wrong n)
  next n gs name words (Some o) None = cond (may_stand o alone) (asked_from verb (n + 1) (added gs name alone) words) (asked_value verb (n + 1) gs o name words)

  pub asked_next : (n : ℕ) (gs : List Given) (word : List ℕ) (words : List (List ℕ)) → asked_from verb n gs (word ∷ words) ≡ next n gs (name_in word) words (begun verb gs (name_in word)) (value_in word)
  asked_next n gs word words = by (begun verb gs (name_in word)) (value_in word)
    where
      by : (o : Option CommandOption) (v : Option (List ℕ)) → elim o [ None ↦ wrong n | Some p ↦ elim v [ Some value ↦ cond (may_stand p (joined value)) (asked_from verb (n + 1) (added gs (name_in word) (joined value)) words) (wrong n) | None ↦ cond (may_stand p alone) (asked_from verb (n + 1) (added gs (name_in word) alone) words) (asked_value verb (n + 1) gs p (name_in word) words) ] ] ≡ next n gs (name_in word) words o v
      by None v = refl
      by (Some p) (Some value) = refl
      by (Some p) None = refl

  -- ---- values

  pub values_of-append : (purpose : Purpose) (gs hs : List Given) → values_of verb purpose (gs ++ hs) ≡ values_of verb purpose gs ++ values_of verb purpose hs
  values_of-append purpose [] hs = refl
  values_of-append purpose (g ∷ gs) hs = by (values_of-append purpose gs hs) (is_for purpose (named g.name (command_options verb)))
    where
      by : values_of verb purpose (gs ++ hs) ≡ values_of verb purpose gs ++ values_of verb purpose hs → (b : Bool) → cond b (value_of g.form ∷ values_of verb purpose (gs ++ hs)) (values_of verb purpose (gs ++ hs)) ≡ cond b (value_of g.form ∷ values_of verb purpose gs) (values_of verb purpose gs) ++ values_of verb purpose hs
      by e true = ap (λ vs. value_of g.form ∷ vs) e
      by e false = e

-- an option that has another value behind these may follow them
pub stands_after : (often : Often) (vs ws : List (List ℕ)) (v : List ℕ) → may_have often (vs ++ (v ∷ ws)) ≡ true → may_follow often vs ≡ true
stands_after at_least_once vs ws v h = refl
stands_after at_most_once [] ws v h = refl
stands_after exactly_once [] ws v h = refl
stands_after exactly_once (u ∷ []) ws v h = cc
stands_after exactly_once (u ∷ w ∷ us) ws v h = cc
stands_after at_most_once (u ∷ []) ws v h = cc
stands_after at_most_once (u ∷ w ∷ us) ws v h = cc
