-- The boxes of variables.
use Rattle.std.proofs.Common.{◌≡◌, ℕ, suc, ◌+◌, Bool, true, false, ◌||◌, not, cond, List, [], ◌∷◌, ◌++◌, length, Option, Some, None, is_some, if◌then◌else◌, IsTrue, refl, sym, ap, ◌∙◌, append_assoc, append-nil, arith, map as each}
use Rattle.std.proofs.lemmas.Bool.{and_parts, not-true, or_from, or_right}
use Rattle.std.proofs.lemmas.Slice.Eq.{bytes_eq-Decides}
use Rattle.std.specs.List.{list_any, position, position_or_len, slice_get}
use Rattle.std.specs.Prelude.{bytes_eq}
use Rattle.code_spec.specs.Allowed.{are_distinct, has_name, parameter_names}
use Rattle.code_spec.specs.Code.{Name}
use Rattle.code_spec.specs.Options.{further, or_else}
use Rattle.star_spec.specs.Binding.{boxes_for}
use Rattle.star_spec.specs.Names.{box_of, with_box, with_boxes}
use Rattle.value_spec.specs.Outcomes.{State, done, then_do, on_store}
use Rattle.code_spec.specs.Scopes.{Around, Use, Home, local, global, builtin, unknown, binds, home_by, home_of, outward}
use Rattle.value_spec.specs.Store.{object, with_object}
use Rattle.value_spec.specs.Values.{Env, Value, of_box}
use Rattle.star_spec.proofs.BoundNames.{bound_count, names_boxed}
use Rattle.star_resolve.specs.Environments.{BoxesOf, Parts, box_at_home, has_box, joined, part_at}
use Rattle.star_resolve.specs.declared.levels.Variable.{Variable}
use Rattle.star_resolve.specs.declared.levels.Variable.TheVariants as variable
use Rattle.star_resolve.specs.Frames.{CallFrames, Frame, FrameOf, Frames, NamesAreVariables, NewFrames, OwnNamesHaveBoxes, is_own, added, box_in, boxed, counted, frame_at, unset_boxes, variable_box, with_unset}
use Rattle.star_resolve.specs.Variables.{each_once, number_in, scope_at, variable_at, with_each, with_name}
use Rattle.star_resolve.proofs.Boxes.{binds_either, filled_boxes, more_boxes, names_have_their_boxes}
use Rattle.star_resolve.proofs.Found.{any_more, bytes_eq-sym, position_is}
use Rattle.star_resolve.proofs.Sets.{position_by}

-- ---- names around a place

their_boxes : (around : Around) (parts : List Env) (frames : List Frame) → Frames around parts frames → Parts around parts
their_boxes [] [] [] h = tt
their_boxes [] [] (f ∷ fs) h = absurd h
their_boxes [] (e ∷ es) fs h = absurd h
their_boxes (names ∷ around) [] fs h = absurd h
their_boxes (names ∷ around) (own ∷ more) [] h = absurd h
their_boxes (names ∷ around) (own ∷ more) (frame ∷ frames) h = (h.0.known, their_boxes around more frames h.1)

-- the box of a name that is bound so far out
abbrev local_box : Name → List Env → Option ℕ → Option ℕ
local_box x parts None = None
local_box x parts (Some n) = box_of x (part_at n parts)

abbrev local_slot : Name → Around → List Frame → Option ℕ → Option ℕ
local_slot x around frames None = None
local_slot x around frames (Some n) = slice_get (frame_at n frames) (number_in (scope_at n around) x)

box_further : (x : Name) (own : Env) (more : List Env) (o : Option ℕ) → local_box x (own ∷ more) (further o) ≡ local_box x more o
box_further x own more None = refl
box_further x own more (Some n) = refl

slot_further : (x : Name) (names : List Name) (around : Around) (frame : Frame) (frames : List Frame) (o : Option ℕ) →
    local_slot x (names ∷ around) (frame ∷ frames) (further o) ≡ local_slot x around frames o
slot_further x names around frame frames None = refl
slot_further x names around frame frames (Some n) = refl

bound_box : (x : Name) (names : List Name) (own : Env) (frame : Frame) → FrameOf names own frame → binds x names ≡ true → box_of x own ≡ slice_get frame (number_in names x)
bound_box x names own frame f h = f.boxes x ∙ ap (box_in frame) (position_is x names ∙ ap (λ b. cond b (Some (number_in names x)) None) h)

here_or_further : (x : Name) (names : List Name) (around : Around) (own : Env) (more : List Env) (frame : Frame) (frames : List Frame) (o : Option ℕ) (b : Bool) →
    FrameOf names own frame → binds x names ≡ b → local_box x more o ≡ local_slot x around frames o →
    local_box x (own ∷ more) (if b then Some 0 else further o) ≡ local_slot x (names ∷ around) (frame ∷ frames) (if b then Some 0 else further o)
here_or_further x names around own more frame frames o true f h k = bound_box x names own frame f h
here_or_further x names around own more frame frames o false f h k = box_further x own more o ∙ k ∙ sym (slot_further x names around frame frames o)

local_boxes : (x : Name) (around : Around) (parts : List Env) (frames : List Frame) → Frames around parts frames → local_box x parts (outward x around) ≡ local_slot x around frames (outward x around)
local_boxes x [] parts frames h = refl
local_boxes x (names ∷ around) [] frames h = absurd h
local_boxes x (names ∷ around) (own ∷ more) [] h = absurd h
local_boxes x (names ∷ around) (own ∷ more) (frame ∷ frames) h =
    here_or_further x names around own more frame frames (outward x around) (binds x names) h.0 refl (local_boxes x around more frames h.1)

box_by_home : (globals builtins : List Name) (u : Use) (parts : List Env) (file : Env) (frames : List Frame) (own : Frame) (o : Option ℕ) (g b : Bool) →
    local_box u.name parts o ≡ local_slot u.name u.around frames o → FrameOf globals file own → binds u.name globals ≡ g →
    box_at_home (home_by o g b) u.name parts file ≡ variable_box frames own (variable_at (home_by o g b) globals builtins u)
box_by_home globals builtins u parts file frames own (Some n) g b h f e = h
box_by_home globals builtins u parts file frames own None true b h f e = bound_box u.name globals file own f e
box_by_home globals builtins u parts file frames own None false true h f e = refl
box_by_home globals builtins u parts file frames own None false false h f e = refl

pub names_are_variables : NamesAreVariables
names_are_variables globals builtins u parts file frames own h f =
    let boxes = names_have_their_boxes globals builtins u parts file (their_boxes u.around parts frames h) f.known in
    (boxes.0 ∙ box_by_home globals builtins u parts file frames own (outward u.name u.around) (binds u.name globals) (binds u.name builtins) (local_boxes u.name u.around parts frames h) f refl, boxes.1)

-- it has a box where it has a variable of the program
own_has_box : (globals builtins : List Name) (u : Use) (h : Home) (v : Variable) → variable_at h globals builtins u ≡ Some v → IsTrue (is_own v) → has_box h ≡ true
own_has_box globals builtins u (local n) v e i = refl
own_has_box globals builtins u global v e i = refl
own_has_box globals builtins u builtin v e i = let same : variable.Builtin (number_in builtins u.name) ≡ v = cc in ap is_own same ∙ i
own_has_box globals builtins u unknown v e i = cc

the_box : (o : Option ℕ) → is_some o ≡ true → (r : ℕ) × (o ≡ Some r)
the_box None h = absurd (cc)
the_box (Some r) h = (r, refl)

pub own_names_have_boxes : OwnNamesHaveBoxes
own_names_have_boxes globals builtins u parts file frames own v h f e i =
    let same = names_are_variables globals builtins u parts file frames own h f in
    let found = the_box (box_of u.name (joined parts file)) (same.1 ∙ own_has_box globals builtins u (home_of globals builtins u) v e i) in
    (found.0, found.1, ap (variable_box frames own) (sym e) ∙ sym same.0 ∙ found.1)

-- ---- boxes by names

-- the box that stands where a name stands first
abbrev box_by : Name → List Name → Frame → Option ℕ
box_by x [] frame = None
box_by x (y ∷ ys) [] = None
box_by x (y ∷ ys) (r ∷ rs) = if bytes_eq x y then Some r else box_by x ys rs

one_later : (b : Bool) (k r : ℕ) (rs : Frame) (c : Bool) → (if b then Some r else box_in rs (cond c (Some k) None)) ≡ box_in (r ∷ rs) (cond (b || c) (Some (cond (not b) (1 + k) 0)) None)
one_later true k r rs c = refl
one_later false k r rs true = let same : suc k ≡ 1 + k = omega arith in ap (slice_get (r ∷ rs)) same
one_later false k r rs false = refl

none_there : (o : Option ℕ) → None ≡ box_in [] o
none_there None = refl
none_there (Some k) = refl

by_position : (x : Name) (ys : List Name) (rs : Frame) → box_by x ys rs ≡ box_in rs (cond (list_any (bytes_eq x) ys) (Some (position_or_len (bytes_eq x) ys)) None)
by_position x [] rs = refl
by_position x (y ∷ ys) [] = none_there (cond (list_any (bytes_eq x) (y ∷ ys)) (Some (position_or_len (bytes_eq x) (y ∷ ys))) None)
by_position x (y ∷ ys) (r ∷ rs) =
    ap (λ o. if bytes_eq x y then Some r else o) (by_position x ys rs) ∙ one_later (bytes_eq x y) (position_or_len (bytes_eq x) ys) r rs (list_any (bytes_eq x) ys)

by_place : (x : Name) (ys : List Name) (rs : Frame) → box_by x ys rs ≡ box_in rs (position (bytes_eq x) ys)
by_place x ys rs = by_position x ys rs ∙ ap (box_in rs) (sym (position_by (bytes_eq x) ys))

either_place : (b : Bool) (r : ℕ) (all o p : Option ℕ) → all ≡ or_else o p → (if b then Some r else all) ≡ or_else (if b then Some r else o) p
either_place true r all o p h = refl
either_place false r all o p h = h

by_both : (x : Name) (ys zs : List Name) (rs qs : Frame) → length rs ≡ length ys → box_by x (ys ++ zs) (rs ++ qs) ≡ or_else (box_by x ys rs) (box_by x zs qs)
by_both x [] zs [] qs h = refl
by_both x [] zs (r ∷ rs) qs h = cc
by_both x (y ∷ ys) zs [] qs h = cc
by_both x (y ∷ ys) zs (r ∷ rs) qs h = either_place (bytes_eq x y) r _ _ _ (by_both x ys zs rs qs (omega arith))

-- ---- names that get boxes

no_box : (o : Option ℕ) → is_some o ≡ false → o ≡ None
no_box None k = refl
no_box (Some r) k = cc

known_or_first : (x y : Name) (n : ℕ) (env : Env) (later : Option ℕ) (b : Bool) → bytes_eq y x ≡ b → is_some (box_of y env) ≡ false →
    or_else (if b then Some n else box_of x env) later ≡ or_else (box_of x env) (if b then Some n else later)
known_or_first x y n env later true e h =
    let same : y ≡ x = (bytes_eq-Decides y x).0 e in
    ap (λ o. or_else o (Some n)) (sym (no_box (box_of x env) (ap (λ z. is_some (box_of z env)) (sym same) ∙ h)))
known_or_first x y n env later false e h = refl

or_none : (o : Option ℕ) → o ≡ or_else o None
or_none None = refl
or_none (Some r) = refl

some_by : (b : Bool) (n : ℕ) (o : Option ℕ) → is_some (if b then Some n else o) ≡ (is_some o || b)
some_by true n None = refl
some_by true n (Some r) = refl
some_by false n None = refl
some_by false n (Some r) = refl

-- one more name is known
known_more : (x y : Name) (n : ℕ) (env : Env) (known : List Name) → is_some (box_of x env) ≡ list_any (bytes_eq x) known → is_some (if bytes_eq y x then Some n else box_of x env) ≡ list_any (bytes_eq x) (known ++ y ∷ [])
known_more x y n env known h = some_by (bytes_eq y x) n (box_of x env) ∙ (λ i. h i || bytes_eq-sym y x i) ∙ sym (any_more x y known)

-- these are the names that have boxes
abbrev Knows : Env → List Name → Type 0
Knows env known = (x : Name) → is_some (box_of x env) ≡ list_any (bytes_eq x) known

abbrev added_by : Bool → Name → (known ys : List Name) → List Name
added_by c y known ys = if c then added known ys else y ∷ added (known ++ y ∷ []) ys

one_found : (x y : Name) (ys known : List Name) (n : ℕ) (env : Env) (c : Bool) → is_some (box_of y env) ≡ c → Knows env known →
    ((known : List Name) (n : ℕ) (env : Env) → Knows env known → box_of x (boxed n (added known ys) env) ≡ or_else (box_of x env) (box_by x (added known ys) (counted n (length (added known ys))))) →
    box_of x (boxed n (added_by c y known ys) env) ≡ or_else (box_of x env) (box_by x (added_by c y known ys) (counted n (length (added_by c y known ys))))
one_found x y ys known n env true e h more = more known n env h
one_found x y ys known n env false e h more =
    let ns = added (known ++ y ∷ []) ys in
    more (known ++ y ∷ []) (suc n) ((y, n) ∷ env) (λ z. known_more z y n env known (h z))
    ∙ known_or_first x y n env (box_by x ns (counted (suc n) (length ns))) (bytes_eq y x) refl e
    ∙ ap (λ b. or_else (box_of x env) (if b then Some n else box_by x ns (counted (suc n) (length ns)))) (bytes_eq-sym y x)

boxed_found : (x : Name) (xs known : List Name) (n : ℕ) (env : Env) → Knows env known →
    box_of x (boxed n (added known xs) env) ≡ or_else (box_of x env) (box_by x (added known xs) (counted n (length (added known xs))))
boxed_found x [] known n env h = or_none (box_of x env)
boxed_found x (y ∷ ys) known n env h = one_found x y ys known n env (list_any (bytes_eq y) known) (h y) h (boxed_found x ys)

once_by : (c : Bool) (y : Name) (known ys : List Name) → ((known : List Name) → with_each known ys ≡ known ++ added known ys) →
    with_each (if c then known else known ++ y ∷ []) ys ≡ known ++ added_by c y known ys
once_by true y known ys more = more known
once_by false y known ys more = more (known ++ y ∷ []) ∙ append_assoc known (y ∷ []) (added (known ++ y ∷ []) ys)

-- each once is what is there and what is added
once_added : (known xs : List Name) → with_each known xs ≡ known ++ added known xs
once_added known [] = sym (append-nil known)
once_added known (y ∷ ys) = once_by (list_any (bytes_eq y) known) y known ys (λ more. once_added more ys)

-- the box of a name among the new boxes of names, from 0 on
pub one_each : (x : Name) (names : List Name) → box_of x (boxed 0 (each_once names) []) ≡ box_in (counted 0 (length (each_once names))) (position (bytes_eq x) (each_once names))
one_each x names =
    let once : each_once names ≡ added [] names = once_added [] names in
    ap (λ ns. box_of x (boxed 0 ns [])) once ∙ boxed_found x names [] 0 [] (λ z. refl) ∙ ap (λ ns. box_by x ns (counted 0 (length ns))) (sym once)
    ∙ by_place x (each_once names) (counted 0 (length (each_once names)))

-- ---- names that stand but once

binds_any : (x : Name) (ys : List Name) → binds x ys ≡ list_any (bytes_eq x) ys
binds_any x [] = refl
binds_any x (y ∷ ys) = λ i. bytes_eq-sym y x i || binds_any x ys i

same_length : (env : Env) → length (each (λ (b : Name × ℕ). b.1) env) ≡ length (each (λ (b : Name × ℕ). b.0) env)
same_length [] = refl
same_length (b ∷ env) = ap suc (same_length env)

has_first : (y : Name) (ys : List Name) → has_name y (y ∷ ys) ≡ true
has_first y ys = ap (λ b. b || has_name y ys) ((bytes_eq-Decides y y).1 refl)

-- a name that stands further on is another one
another : (x y : Name) (ys : List Name) (b : Bool) → bytes_eq x y ≡ b → has_name y ys ≡ false → has_name x ys ≡ true → b ≡ false
another x y ys true e none h =
    let same : x ≡ y = (bytes_eq-Decides x y).0 e in
    sym h ∙ ap (λ z. has_name z ys) same ∙ none
another x y ys false e none h = refl

abbrev Apart : (known names : List Name) → Type 0
Apart known names = (x : Name) → has_name x names ≡ true → list_any (bytes_eq x) known ≡ false

distinct_each : (known names : List Name) → IsTrue (are_distinct names) → Apart known names → with_each known names ≡ known ++ names
distinct_each known [] d apart = sym (append-nil known)
distinct_each known (y ∷ ys) d apart =
    let parts = and_parts (not (has_name y ys)) (are_distinct ys) d in
    let none = not-true (has_name y ys) parts.0 in
    ap (λ b. with_each (if b then known else known ++ y ∷ []) ys) (apart y (has_first y ys))
    ∙ distinct_each (known ++ y ∷ []) ys parts.1
    (λ x h. any_more x y known ∙ or_from (list_any (bytes_eq x) known) (bytes_eq x y) (apart x (or_right (bytes_eq x y) (has_name x ys) h)) (another x y ys (bytes_eq x y) refl none h))
    ∙ append_assoc known (y ∷ []) ys

pub each_behind : (known xs ys : List Name) → with_each known (xs ++ ys) ≡ with_each (with_each known xs) ys
each_behind known [] ys = refl
each_behind known (x ∷ xs) ys = each_behind (with_name known x) xs ys

once_both : (parameters names : List Name) → IsTrue (are_distinct parameters) → each_once (parameters ++ names) ≡ parameters ++ added parameters names
once_both parameters names d = each_behind [] parameters names ∙ ap (λ known. with_each known names) (distinct_each [] parameters d (λ x h. refl)) ∙ once_added parameters names

one_longer : {A : Type 0} (xs : List A) (x : A) → length (xs ++ x ∷ []) ≡ suc (length xs)
one_longer [] x = refl
one_longer (y ∷ xs) x = ap suc (one_longer xs x)

-- the boxes of arguments are those of the names, in their order
env_places : (x : Name) (env : Env) → box_of x env ≡ box_by x (each (λ (b : Name × ℕ). b.0) env) (each (λ (b : Name × ℕ). b.1) env)
env_places x [] = refl
env_places x (b ∷ env) = λ i. if bytes_eq-sym b.0 x i then Some b.1 else env_places x env i

-- a box for each of these
abbrev Made : (H : Type 0) → List Name → Type 0
Made H xs =
    (known : List Name) (env : Env) (s : State H) → Knows env known →
    with_boxes xs env s ≡ done (boxed (length s.store) (added known xs) env) (with_unset (length (added known xs)) s)

module _ {H : Type 0} where
  one_made : (y : Name) (ys known : List Name) (env : Env) (s : State H) (o : Option ℕ) (c : Bool) → is_some (box_of y env) ≡ c → is_some o ≡ c → Knows env known → Made H ys →
      then_do (with_box y env o s) (with_boxes ys) ≡ done (boxed (length s.store) (added_by c y known ys) env) (with_unset (length (added_by c y known ys)) s)
  one_made y ys known env s None true e k h more = cc
  one_made y ys known env s (Some r) false e k h more = cc
  one_made y ys known env s (Some r) true e k h more = more known env s h
  one_made y ys known env s None false e k h more =
      let n = length s.store in
      let ns = added (known ++ y ∷ []) ys in
      more (known ++ y ∷ []) ((y, n) ∷ env) (on_store (with_object (of_box None)) s) (λ z. known_more z y n env known (h z))
      ∙ (λ i. done (boxed (one_longer s.store (object (of_box None)) i) ns ((y, n) ∷ env)) (record s { store = append_assoc s.store (object (of_box None) ∷ []) (unset_boxes (length ns)) i }))

  boxes_made : (xs : List Name) → Made H xs
  boxes_made [] known env s h = λ i. done env (record s { store = sym (append-nil s.store) i })
  boxes_made (y ∷ ys) known env s h = one_made y ys known env s (box_of y env) (list_any (bytes_eq y) known) (h y) (h y) h (boxes_made ys)

  pub new_frames : NewFrames H
  new_frames names s =
      let n = length s.store in
      let once : each_once names ≡ added [] names = once_added [] names in
      let made : with_boxes names [] s ≡ done (boxed n (each_once names) []) (with_unset (length (each_once names)) s) =
      boxes_made names [] [] s (λ x. refl) ∙ (λ i. done (boxed n (sym once i) []) (with_unset (length (sym once i)) s))
      in (
        made,
        record {
          boxes = λ x. ap (λ ns. box_of x (boxed n ns [])) once ∙ boxed_found x names [] n [] (λ z. refl) ∙ ap (λ ns. box_by x ns (counted n (length ns))) (sym once)
              ∙ by_place x (each_once names) (counted n (length (each_once names)));
          known = λ x. more_boxes names [] (boxed n (each_once names) []) s (with_unset (length (each_once names)) s) made x;
        },
      )

  -- ---- calls

  -- where each of these names got the box of a value, the others get new boxes
  pub others_made : (xs names : List Name) (values : List Value) (own : Env) (r t : State H) → length values ≡ length xs → boxes_for xs values r ≡ done own t →
      with_boxes names own t ≡ done (boxed (length t.store) (added xs names) own) (with_unset (length (added xs names)) t)
  others_made xs names values own r t count made = boxes_made names xs own t (λ x. filled_boxes xs values own r t count made x ∙ binds_any x xs)

  pub call_frames : CallFrames H
  call_frames p ps names ds vs values own s r t distinct h made =
      let n = length t.store in
      let parameters = parameter_names ps in
      let others = added parameters names in
      let frame = each (λ (b : Name × ℕ). b.1) own in
      let count : length values ≡ length parameters = bound_count p ps ds vs values s r h in
      let first : each (λ (b : Name × ℕ). b.0) own ≡ parameters = names_boxed parameters values own r t count made in
      let filled : BoxesOf parameters own = filled_boxes parameters values own r t count made in
      let knows : Knows own parameters = λ x. filled x ∙ binds_any x parameters in
      let once : each_once (parameters ++ names) ≡ parameters ++ others = once_both parameters names distinct in
      let boxes : with_boxes names own t ≡ done (boxed n others own) (with_unset (length others) t) = others_made parameters names values own r t count made in (
        once,
        boxes,
        record {
          boxes = λ x. boxed_found x names parameters n own knows
              ∙ ap (λ o. or_else o (box_by x others (counted n (length others)))) (env_places x own ∙ ap (λ ns. box_by x ns frame) first)
              ∙ sym (by_both x parameters others frame (counted n (length others)) (same_length own ∙ ap length first))
              ∙ by_place x (parameters ++ others) (frame ++ counted n (length others))
              ∙ ap (λ ns. box_in (frame ++ counted n (length others)) (position (bytes_eq x) ns)) (sym once);
          known = λ x. more_boxes names own (boxed n others own) t (with_unset (length others) t) boxes x
              ∙ ap (λ b. b || binds x names) (filled x) ∙ sym (binds_either x parameters names);
        },
      )
