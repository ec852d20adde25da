-- How many items of a collection have begun: the item that began last, and those it is in, are the last of their collections.
use Rattle.std.proofs.Common.{◌≡◌, ℕ, suc, ◌<◌, ◌≤◌, Bool, true, false, List, [], ◌∷◌, length, bytes_eq, ◌⊎◌, inl, inr, refl, sym, ◌∙◌, ap, subst, arith, if◌then◌else◌}
use Rattle.code_spec.specs.Program.{ItemKind}
use Rattle.template_spec.specs.Events.{Path, Event, begins}
use Rattle.template_spec.specs.OpenBlocks.{collection_of, so_far}
use Rattle.template_pass.proofs.Inside.{inside_split, inside_item, path_same, path_other}
use Rattle.template_pass.proofs.Paths.{In, in_through, in_length, in_by_length}

-- an item that the last one is in, or is, is the last of its collection
unfoldable pub Latest : (last : Path) → (past : List Event) → Type 0
Latest q past = (n : ℕ) (c : Path) → In q (n ∷ c) → so_far c past ≡ suc n

-- a collection in an item that is not the last of its own
pub Gone : (past : List Event) → Path → Type 0
Gone past c = (m : ℕ) × (d : Path) × In c (m ∷ d) × (suc m < so_far d past)

-- an item that has not begun
unfoldable pub Ahead : (past : List Event) → Path → Type 0
Ahead past p = (n : ℕ) × (c : Path) × (p ≡ n ∷ c) × (so_far c past ≤ n)

pub so_far-itself : (n : ℕ) (c : Path) (k : ItemKind) (l : ℕ) (past : List Event) → so_far c (begins (n ∷ c) k l ∷ past) ≡ suc (so_far c past)
so_far-itself n c k l past = ap (λ (b : Bool). if b then suc (so_far c past) else so_far c past) (path_same c c refl)

pub so_far-other : (n : ℕ) (c d : Path) (k : ItemKind) (l : ℕ) (past : List Event) → (c ≡ d → ⊥) → so_far d (begins (n ∷ c) k l ∷ past) ≡ so_far d past
so_far-other n c d k l past h = ap (λ (b : Bool). if b then suc (so_far d past) else so_far d past) (path_other c d h)

pub so_far-more : (p d : Path) (k : ItemKind) (l : ℕ) (past : List Event) → so_far d past ≤ so_far d (begins p k l ∷ past)
so_far-more p d k l past = by (bytes_eq (collection_of p) d)
  where
    by : (b : Bool) → so_far d past ≤ (if b then suc (so_far d past) else so_far d past)
    by true = omega arith
    by false = omega arith

pub latest_none : Latest [] []
unfolding Latest
latest_none n c i = absurd (omega (arith, in_length [] (n ∷ c) i))

pub latest_begins : (q c : Path) (k : ItemKind) (l : ℕ) (past : List Event) → Latest q past → In q c → Latest (so_far c past ∷ c) (begins (so_far c past ∷ c) k l ∷ past)
unfolding Latest
latest_begins q c k l past h i n d j = by (inside_split (so_far c past) c (n ∷ d) j)
  where
    by : (n ∷ d ≡ so_far c past ∷ c) ⊎ In c (n ∷ d) → so_far d (begins (so_far c past ∷ c) k l ∷ past) ≡ suc n
    by (inl e) =
        let m : n ≡ so_far c past = cc e in
        let f : d ≡ c = cc e in
        ap (λ (x : Path). so_far x (begins (so_far c past ∷ c) k l ∷ past)) f ∙ so_far-itself (so_far c past) c k l past ∙ ap suc (sym m)
    by (inr s) =
        so_far-other (so_far c past) c d k l past (λ e. let t : length c ≡ length d = ap length e in omega (arith, t, in_length c (n ∷ d) s))
        ∙ h n d (in_through q c (n ∷ d) i s)

pub gone_outside : (q c : Path) (past : List Event) → Latest q past → Gone past c → In q c → ⊥
unfolding Latest Gone
gone_outside q c past h g i = omega (arith, g.3, h g.0 g.1 (in_through q c (g.0 ∷ g.1) i g.2))

pub gone_still : (p c : Path) (k : ItemKind) (l : ℕ) (past : List Event) → Gone past c → Gone (begins p k l ∷ past) c
unfolding Gone
gone_still p c k l past g = (g.0, g.1, g.2, omega (arith, g.3, so_far-more p g.1 k l past))

-- where an item of an outer collection begins, an inner one is over
pub gone_behind : (q c d : Path) (k : ItemKind) (l : ℕ) (past : List Event) → Latest q past → In q c → In q d → length d < length c → Gone (begins (so_far d past ∷ d) k l ∷ past) c
unfolding Latest Gone
gone_behind q c d k l past h i j s =
    let t = inside_item c d (in_by_length q c d i j (omega (arith, s))) s in
    let u : so_far d past ≡ suc t.0 = h t.0 d (in_through q c (t.0 ∷ d) i t.1) in
    (t.0, d, t.1, omega (arith, u, so_far-itself (so_far d past) d k l past))

-- what the last item is in has begun
pub ahead_outside : (q p : Path) (past : List Event) → Latest q past → Ahead past p → In q p → ⊥
unfolding Latest Ahead
ahead_outside q p past h c i = omega (arith, c.3, h c.0 c.1 (rw c.2 at i))

pub ahead_before : (p q : Path) (k : ItemKind) (l : ℕ) (past : List Event) → Ahead (begins q k l ∷ past) p → Ahead past p
unfolding Ahead
ahead_before p q k l past c = (c.0, c.1, c.2, omega (arith, c.3, so_far-more q c.1 k l past))

pub ahead_next : (c : Path) (past : List Event) → Ahead past (so_far c past ∷ c)
unfolding Ahead
ahead_next c past = (so_far c past, c, refl, omega arith)

pub ahead_other : (p c : Path) (k : ItemKind) (l : ℕ) (past : List Event) → Ahead (begins (so_far c past ∷ c) k l ∷ past) p → p ≡ so_far c past ∷ c → ⊥
unfolding Ahead
ahead_other p c k l past g e =
    let f : g.0 ∷ g.1 ≡ so_far c past ∷ c = sym g.2 ∙ e in
    let m : g.0 ≡ so_far c past = cc f in
    let d : g.1 ≡ c = cc f in
    let r : so_far g.1 (begins (so_far c past ∷ c) k l ∷ past) ≡ so_far c (begins (so_far c past ∷ c) k l ∷ past) = ap (λ (x : Path). so_far x (begins (so_far c past ∷ c) k l ∷ past)) d in
    omega (arith, r, m, g.3, so_far-itself (so_far c past) c k l past)

-- ---- the same of the next item of a collection

pub latest_item : (q p : Path) (k : ItemKind) (l : ℕ) (past : List Event) → p ≡ so_far (collection_of p) past ∷ collection_of p →
    Latest q past → In q (collection_of p) → Latest p (begins p k l ∷ past)
latest_item q p k l past e h i = subst (λ (x : Path). Latest x (begins x k l ∷ past)) (sym e) (latest_begins q (collection_of p) k l past h i)

pub gone_item : (q c p : Path) (k : ItemKind) (l : ℕ) (past : List Event) → p ≡ so_far (collection_of p) past ∷ collection_of p →
    Latest q past → In q c → In q (collection_of p) → length (collection_of p) < length c → Gone (begins p k l ∷ past) c
gone_item q c p k l past e h i j s = subst (λ (x : Path). Gone (begins x k l ∷ past) c) (sym e) (gone_behind q c (collection_of p) k l past h i j s)

pub ahead_item : (p : Path) (past : List Event) → p ≡ so_far (collection_of p) past ∷ collection_of p → Ahead past p
ahead_item p past e = subst (λ (x : Path). Ahead past x) (sym e) (ahead_next (collection_of p) past)

pub ahead_apart : (p q : Path) (k : ItemKind) (l : ℕ) (past : List Event) → q ≡ so_far (collection_of q) past ∷ collection_of q →
    Ahead (begins q k l ∷ past) p → p ≡ q → ⊥
ahead_apart p q k l past e g f =
    ahead_other p (collection_of q) k l past (subst (λ (x : Path). Ahead (begins x k l ∷ past) p) e g) (f ∙ e)
