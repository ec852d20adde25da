-- Instructions of what readers of code give, one part after another.
use Rattle.std.proofs.Common.{◌≡◌, ℕ, List, Result, Ok, Err, refl, sym, ap, subst, ◌∙◌}
use Rattle.ytt_base.specs.declared.fault.Stop.{Stop}
use Rattle.ytt_base.specs.declared.fault.Stop.TheVariants as stop
use Rattle.ytt_base.specs.Outcomes.{Outcome, ◌>>=◌}
use Rattle.code_spec.specs.Program.{Instruction}
use Rattle.star_tree.specs.declared.code.Stmt.{Stmt}
use Rattle.template_program.specs.Emits.{Emits, EmitsBy, followed}

-- ---- what each part gives, and what is made of it

module _ {A B : Type 0} (file : ℕ) (code : A → List Instruction → List Instruction) (more : B → List Instruction → List Instruction) (a b c d : List Stmt) (n m i j : ℕ) where
  -- what is made of what a part gives, whose instructions stand in others
  pub emits_in : (result : Result (Unit {0}) Stop) (o : Outcome A) (f : A → B) → EmitsBy file a b n m code result o → ((x : A) → Emits file a b n m (code x) → Emits file c d i j (more (f x))) →
      EmitsBy file c d i j more result (o >>= (λ x. Ok (f x)))
  emits_in (Ok u) o f (x, e, h) k = (f x, ap (λ p. p >>= (λ y. Ok (f y))) e, k x h)
  emits_in (Err (stop.Fault q)) o f h k = ap (λ p. p >>= (λ y. Ok (f y))) h
  emits_in (Err stop.Memory) o f h k = tt

  -- behind a part, what is made of what it gives
  pub emits_behind : (result : Result (Unit {0}) Stop) (o : Outcome A) (next : A → Outcome B) → EmitsBy file a b n m code (Ok tt) o → ((x : A) → Emits file a b n m (code x) → EmitsBy file c d i j more result (next x)) →
      EmitsBy file c d i j more result (o >>= next)
  emits_behind result o next (x, e, h) k = subst (λ (p : Outcome A). EmitsBy file c d i j more result (p >>= next)) (sym e) (k x h)

-- ---- members that are taken one after another

-- What is put so far for all members; `front` puts what they give before what is given of those that are left.
pub record SoFar {A : Type 0} (texted : A → Outcome A) (code : A → List Instruction → List Instruction) (file : ℕ) (all left : A) (a b : List Stmt) (n m : ℕ) : Type 0 where
  pub front : A → A
  pub texted_so : texted all ≡ (texted left >>= (λ x. Ok (front x)))
  pub emitted : (x : A) (is : List Instruction) → followed file b m (code x is) ≡ followed file a n (code (front x) is)

itself : {A : Type 0} (o : Outcome A) → o ≡ (o >>= (λ x. Ok x))
itself (Ok x) = refl
itself (Err e) = refl

in_turn : {A : Type 0} (o : Outcome A) (f g : A → A) → ((o >>= (λ x. Ok (f x))) >>= (λ x. Ok (g x))) ≡ (o >>= (λ x. Ok (g (f x))))
in_turn (Ok x) f g = refl
in_turn (Err e) f g = refl

module _ {A : Type 0} (texted : A → Outcome A) (code : A → List Instruction → List Instruction) (file : ℕ) (all : A) (a : List Stmt) (n : ℕ) where
  pub none_so_far : SoFar texted code file all all a a n n
  none_so_far = record { front = λ x. x; texted_so = itself (texted all); emitted = λ x is. refl }

  module _ {B : Type 0} {left : A} {b : List Stmt} {m : ℕ} (before : SoFar texted code file all left a b n m) where
    -- one more of them
    pub one_more : (c : List Stmt) (k : ℕ) (part : B → List Instruction → List Instruction) (o : Outcome B) (join : B → A → A) (rest : A) → texted left ≡ (o >>= (λ y. texted rest >>= (λ x. Ok (join y x)))) →
        ((y : B) (x : A) (is : List Instruction) → code (join y x) is ≡ part y (code x is)) → EmitsBy file b c m k part (Ok tt) o → SoFar texted code file all rest a c n k
    one_more c k part o join rest e first (y, given, h) = record {
      front = λ x. before.front (join y x);
      texted_so =
          before.texted_so
          ∙ ap (λ p. p >>= (λ x. Ok (before.front x))) (e ∙ ap (λ p. p >>= (λ y. texted rest >>= (λ x. Ok (join y x)))) given)
          ∙ in_turn (texted rest) (join y) before.front;
      emitted = λ x is. h.emitted (code x is) ∙ ap (followed file b m) (sym (first y x is)) ∙ before.emitted (join y x) is;
    }

    -- or its fault is that of all
    pub one_stops : (d c : List Stmt) (j k : ℕ) (part : B → List Instruction → List Instruction) (s : Stop) (o : Outcome B) (next : B → Outcome A) → texted left ≡ (o >>= next) → EmitsBy file d c j k part (Err s) o →
        EmitsBy file a c n k code (Err s) (texted all)
    one_stops d c j k part (stop.Fault f) o next e h = before.texted_so ∙ ap (λ p. p >>= (λ x. Ok (before.front x))) (e ∙ ap (λ p. p >>= next) h)
    one_stops d c j k part stop.Memory o next e h = tt

  module _ {left : A} {b : List Stmt} {m : ℕ} (before : SoFar texted code file all left a b n m) where
    -- what is left at the end
    pub the_rest : (c : List Stmt) (k : ℕ) (result : Result (Unit {0}) Stop) → EmitsBy file b c m k code result (texted left) → EmitsBy file a c n k code result (texted all)
    the_rest c k (Ok u) (x, e, h) = (
      before.front x,
      before.texted_so ∙ ap (λ p. p >>= (λ x. Ok (before.front x))) e,
      record { emitted = λ is. h.emitted is ∙ before.emitted x is },
    )
    the_rest c k (Err (stop.Fault f)) h = before.texted_so ∙ ap (λ p. p >>= (λ x. Ok (before.front x))) h
    the_rest c k (Err stop.Memory) h = tt

    -- where nothing is left
    pub the_end : (none : A) → left ≡ none → texted none ≡ Ok none → ((is : List Instruction) → code none is ≡ is) → EmitsBy file a b n m code (Ok tt) (texted all)
    the_end none e given nothing = the_rest b m (Ok tt) (none, ap texted e ∙ given, record { emitted = λ is. ap (followed file b m) (sym (nothing is)) })
