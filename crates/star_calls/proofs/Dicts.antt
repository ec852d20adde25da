-- Pairs of names and values, one after another.
use Rattle.std.proofs.Common.{◌≡◌, ◌++◌, ◌||◌, ℕ, Bool, true, false, bytes_eq, if◌then◌else◌, List, [], ◌∷◌, Option, Some, None, refl, sym, ap, ◌∙◌, subst, rules, Result, OnOk, append-nil, append_assoc}
use Rattle.std.proofs.lemmas.Bool.{or_parts, or_right}
use Rattle.std.proofs.lemmas.Slice.Eq.{bytes_eq-Decides}
use Rattle.ytt_base.specs.declared.text.Memory.{Memory}
use Rattle.code_spec.specs.Code.{Name}
use Rattle.code_spec.specs.Options.{further}
use Rattle.value_spec.specs.Keys.{place_of_key, same_key}
use Rattle.value_spec.specs.Store.{put_pair, with_pair}
use Rattle.value_spec.specs.Values.{Value, Fields, no_fields, a_field, text_value}
use Rattle.value_spec.specs.Binding.{has_field, has_twice, text_pairs}

abbrev pub Pairs : Type 0
Pairs = List (Value × Value)

-- these pairs are put, and those of the fields come behind them, none of whose names stands among them
pub record Put (all put : Pairs) (fs : Fields) : Type 0 where
  pub same : all ≡ put ++ text_pairs fs
  pub once : has_twice fs ≡ false
  pub new : (x : Name) → has_field x fs ≡ true → place_of_key (text_value x) put ≡ None

pub none_put : (fs : Fields) → has_twice fs ≡ false → Put (text_pairs fs) [] fs
none_put fs h = record { same = refl; once = h; new = λ x e. refl }

behind : (b : Bool) (o q : Option ℕ) → (if b then Some 0 else further o) ≡ None → (o ≡ None → q ≡ None) → (if b then Some 0 else further q) ≡ None
behind true o q h f = absurd (search (rules, h))
behind false None q h f = ap further (f refl)
behind false (Some i) q h f = absurd (search (rules, h))

place_behind : (x y : Name) (v : Value) (ps : Pairs) → place_of_key (text_value x) ps ≡ None → bytes_eq y x ≡ false → place_of_key (text_value x) (ps ++ (text_value y, v) ∷ []) ≡ None
place_behind x y v [] h e = ap (λ b. if b then Some 0 else further None) e
place_behind x y v (p ∷ ps) h e =
    behind (same_key p.0 (text_value x)) (place_of_key (text_value x) ps) (place_of_key (text_value x) (ps ++ (text_value y, v) ∷ [])) h (λ n. place_behind x y v ps n e)

-- a name that stands there isn't one that doesn't
unlike : (y x : Name) (fs : Fields) → has_field y fs ≡ false → has_field x fs ≡ true → bytes_eq y x ≡ false
unlike y x fs out there = by (bytes_eq y x) refl where
  by : (b : Bool) → bytes_eq y x ≡ b → b ≡ false
  by false e = refl
  by true e =
      let one : y ≡ x = (bytes_eq-Decides y x).0 e in
      let clash : false ≡ true = sym out ∙ ap (λ y. has_field y fs) one ∙ there in
      absurd (search (rules, clash))

alike : (t : Name) → bytes_eq t t ≡ true
alike t = (bytes_eq-Decides t t).1 refl

pub put_next : (all put : Pairs) (y : Name) (v : Value) (fs : Fields) → Put all put (a_field y v fs) → Put all (put_pair (text_value y) v put) fs
put_next all put y v fs h =
    let n = or_parts (has_field y fs) (has_twice fs) h.once in
    let fresh : place_of_key (text_value y) put ≡ None = h.new y (ap (λ b. b || has_field y fs) (alike y)) in
    let more : put_pair (text_value y) v put ≡ put ++ (text_value y, v) ∷ [] = ap (with_pair (text_value y) v put) fresh in
    subst (λ ps. Put all ps fs) (sym more) (record {
      same = h.same ∙ sym (append_assoc put ((text_value y, v) ∷ []) (text_pairs fs));
      once = n.1;
      new = λ x e. place_behind x y v put (h.new x (or_right (bytes_eq x y) (has_field x fs) e)) (unlike y x fs n.0 e);
    })

pub put_more : (all put now : Pairs) (y x : Name) (v : Value) (fs more : Fields) → Put all put (a_field y v fs) → x ≡ y → now ≡ put_pair (text_value x) v put → more ≡ fs → Put all now more
put_more all put now y x v fs more h e f g =
    subst (λ ps. Put all ps more) (ap (λ x. put_pair (text_value x) v put) (sym e) ∙ sym f) (subst (Put all (put_pair (text_value y) v put)) (sym g) (put_next all put y v fs h))

pub all_put : (all put : Pairs) (fs : Fields) → fs ≡ no_fields → Put all put fs → put ≡ all
all_put all put fs e h = sym (append-nil put) ∙ ap (λ fs. put ++ text_pairs fs) (sym e) ∙ sym h.same

-- ---- a pair that was put

pub put_same : (r : Result (Unit {0}) Memory) (k key v value : Value) (new old before : Pairs) → k ≡ key → v ≡ value → old ≡ before → OnOk r (new ≡ put_pair k v old) → OnOk r (new ≡ put_pair key value before)
put_same r k key v value new old before e f g h = subst (λ ps. OnOk r (new ≡ ps)) (λ i. put_pair (e i) (f i) (g i)) h
