-- The open nodes of a stack.
use Rattle.std.proofs.Common.{◌≡◌, ◌≤◌, ◌<◌, ◌==◌, ℕ, zero, suc, ◌+◌, ◌-◌, true, false, not, Some, List, [], ◌∷◌, ◌++◌, length, length-append, take, drop, get_or, slice_set, refl, sym, ap, ◌∙◌, add-one, arith, rules}
use Rattle.std.specs.Prelude.{slice_get}
use Rattle.value_spec.specs.Values as plain
use Rattle.value_spec.specs.Values.{Children}
use Rattle.star_values.specs.View.{built_in}
use Rattle.template_meaning.specs.Run.{Node}
use Rattle.node_build.specs.Parts.{cut_to, finished, has_two}
use Rattle.node_build.specs.View.{node_at, nodes_from, nodes_in}
use Rattle.node_build.specs.declared.node.OpenNode.{OpenNode}

drop_suc : {A : Type 0} (n : ℕ) (xs : List A) → drop (suc n) xs ≡ drop 1 (drop n xs)
drop_suc zero xs = refl
drop_suc (suc n) [] = refl
drop_suc (suc n) (x ∷ xs) = drop_suc n xs

module _ (held : List plain.Value) where
  pub from-last : (k : ℕ) (ns : List OpenNode) (n : OpenNode) (outer : List Node) → nodes_from held k (ns ++ n ∷ []) outer ≡ node_at held (length ns + k) n ∷ nodes_from held k ns outer
  from-last k [] n outer = ap (λ l. node_at held l n ∷ outer) (omega arith)
  from-last k (m ∷ ns) n outer = from-last (suc k) ns n (node_at held k m ∷ outer) ∙ ap (λ l. node_at held l n ∷ nodes_from held (suc k) ns (node_at held k m ∷ outer)) (omega arith)

  -- one more node, over the one that was on top
  pub nodes-more : (k : ℕ) (top new : OpenNode) (below : List OpenNode) → nodes_in held k new (below ++ top ∷ []) ≡ node_at held (suc (length below + k)) new ∷ nodes_in held k top below
  nodes-more k top new below =
      ap (λ l. node_at held l new ∷ nodes_from held k (below ++ top ∷ []) []) (grind (arith, length-append))
      ∙ ap (λ ns. node_at held (suc (length below + k)) new ∷ ns) (from-last k below top [])

  -- an innermost one at this level
  abbrev pub IsSome : (level : ℕ) → List Node → Type 0
  IsSome level ns = (n : Node) × ((rest : List Node) × ((ns ≡ n ∷ rest) × (n.level + 1 ≡ level)))

  from-some : (k : ℕ) (ns : List OpenNode) (m : Node) (ms : List Node) → m.level + 1 ≡ k → IsSome (length ns + k) (nodes_from held k ns (m ∷ ms))
  from-some k [] m ms e = (m, (ms, (refl, e ∙ omega arith)))
  from-some k (x ∷ ns) m ms e =
      let more = from-some (suc k) ns (node_at held k x) (m ∷ ms) (add-one k) in
      (more.0, (more.1.0, (more.1.1.0, more.1.1.1 ∙ omega arith)))

  -- the innermost one of those below, with the level that it has
  pub nodes-some : (level : ℕ) (ns : List OpenNode) (many around : ℕ) → many ≡ length ns → 1 ≤ many → around ≡ many - 1 → (n : Node) × ((rest : List Node) × ((nodes_from held level ns [] ≡ n ∷ rest) × (n.level ≡ level + around)))
  nodes-some level [] many around e h k = absurd (grind (arith, e, h))
  nodes-some level (x ∷ ns) many around e h k =
      let more = from-some (suc level) ns (node_at held level x) [] (add-one level) in
      (more.0, (more.1.0, (more.1.1.0, grind (arith, more.1.1.1, e, k))))

  pub two-open : (level : ℕ) (top : OpenNode) (ns : List OpenNode) (many : ℕ) → many ≡ length ns → not (many == 0) ≡ has_two (nodes_in held level top ns)
  two-open level top [] many e = ap (λ n. not (n == 0)) e
  two-open level top (x ∷ ns) many e =
      let more = from-some (suc level) ns (node_at held level x) [] (add-one level) in
      let some : (many == 0) ≡ false = grind (arith, e) in
      ap not some ∙ ap (λ ms. has_two (node_at held (length (x ∷ ns) + level) top ∷ ms)) (sym more.1.1.0)

  -- ---- how many

  pub from-count : (k : ℕ) (ns : List OpenNode) (outer : List Node) → length (nodes_from held k ns outer) ≡ length ns + length outer
  from-count k [] outer = omega arith
  from-count k (n ∷ ns) outer = from-count (suc k) ns (node_at held k n ∷ outer) ∙ omega arith

  pub nodes-count : (k : ℕ) (top : OpenNode) (ns : List OpenNode) → length (nodes_in held k top ns) ≡ length ns + 1
  nodes-count k top ns = grind (arith, from-count k ns [])

  -- ---- the outermost one

  from-finished : (k : ℕ) (ns : List OpenNode) (n m : Node) (outer : List Node) → finished (n ∷ nodes_from held k ns (m ∷ outer)) ≡ finished (m ∷ outer)
  from-finished k [] n m outer = refl
  from-finished k (x ∷ ns) n m outer = from-finished (suc k) ns n (node_at held k x) (m ∷ outer)

  pub finished-first : (k : ℕ) (top n : OpenNode) (ns : List OpenNode) → finished (nodes_in held k top (n ∷ ns)) ≡ built_in held n.children.items.items
  finished-first k top n ns = from-finished (suc k) ns (node_at held (length (n ∷ ns) + k) top) (node_at held k n) []

  -- ---- the last one below

  pub from-at : (k : ℕ) (ns : List OpenNode) (last : ℕ) (m : OpenNode) (outer : List Node) → suc last ≡ length ns → m ≡ get_or ns last m → nodes_from held k ns outer ≡ node_at held (last + k) m ∷ nodes_from held k (take last ns) outer
  from-at k [] last m outer e is = absurd (omega (arith, e))
  from-at k (x ∷ ns) zero m outer e is = only ns e
    where
      only : (ns : List OpenNode) → 1 ≡ length (x ∷ ns) → nodes_from held k (x ∷ ns) outer ≡ node_at held (0 + k) m ∷ outer
      only [] e = ap (λ n. node_at held k n ∷ outer) (sym is) ∙ ap (λ l. node_at held l m ∷ outer) (omega arith)
      only (y ∷ ns) e = absurd (omega (arith, e))
  from-at k (x ∷ ns) (suc last) m outer e is =
      from-at (suc k) ns last m (node_at held k x ∷ outer) (omega (arith, e)) is
      ∙ ap (λ l. node_at held l m ∷ nodes_from held (suc k) (take last ns) (node_at held k x ∷ outer)) (omega arith)

  -- with another in its place
  pub from-set : (k : ℕ) (ns : List OpenNode) (last : ℕ) (m : OpenNode) (outer : List Node) → suc last ≡ length ns → nodes_from held k (slice_set ns last m) outer ≡ node_at held (last + k) m ∷ nodes_from held k (take last ns) outer
  from-set k [] last m outer e = absurd (omega (arith, e))
  from-set k (x ∷ ns) zero m outer e = only ns e
    where
      only : (ns : List OpenNode) → 1 ≡ length (x ∷ ns) → nodes_from held k (slice_set (x ∷ ns) 0 m) outer ≡ node_at held (0 + k) m ∷ outer
      only [] e = ap (λ l. node_at held l m ∷ outer) (omega arith)
      only (y ∷ ns) e = absurd (omega (arith, e))
  from-set k (x ∷ ns) (suc last) m outer e =
      from-set (suc k) ns last m (node_at held k x ∷ outer) (omega (arith, e))
      ∙ ap (λ l. node_at held l m ∷ nodes_from held (suc k) (take last ns) (node_at held k x ∷ outer)) (omega arith)

  set-length : (ns : List OpenNode) (n : ℕ) (m : OpenNode) → length (slice_set ns n m) ≡ length ns
  set-length [] n m = refl
  set-length (x ∷ ns) zero m = refl
  set-length (x ∷ ns) (suc n) m = ap suc (set-length ns n m)

  -- with one that is seen the same in its place
  pub nodes-kept : (k : ℕ) (top new : OpenNode) (ns : List OpenNode) (last : ℕ) (m n : OpenNode) → suc last ≡ length ns → m ≡ get_or ns last m → new ≡ top → node_at held (last + k) n ≡ node_at held (last + k) m → nodes_in held k new (slice_set ns last n) ≡ nodes_in held k top ns
  nodes-kept k top new ns last m n e is same seen =
      ap (λ l. node_at held (l + k) new ∷ nodes_from held k (slice_set ns last n) []) (set-length ns last n)
      ∙ ap (λ t. node_at held (length ns + k) t ∷ nodes_from held k (slice_set ns last n) []) same
      ∙ ap (λ ms. node_at held (length ns + k) top ∷ ms) (from-set k ns last n [] e ∙ ap (λ x. x ∷ nodes_from held k (take last ns) []) seen ∙ sym (from-at k ns last m [] e is))

  pub none-below : (k : ℕ) (ns : List OpenNode) → length ns < 1 → nodes_from held k ns [] ≡ []
  none-below k [] lt = refl
  none-below k (x ∷ ns) lt = absurd (omega (arith, lt))

  -- ---- fewer nodes

  -- those below so many
  from-take : (k j : ℕ) (ns : List OpenNode) (outer : List Node) → j ≤ length ns → nodes_from held k (take j ns) outer ≡ drop (length ns - j) (nodes_from held k ns outer)
  from-take k zero ns outer le =
      let all : length ns ≡ length ns - 0 = omega arith in
      sym (all-dropped k ns outer) ∙ ap (λ j. drop j (nodes_from held k ns outer)) all
    where
      all-dropped : (k : ℕ) (ns : List OpenNode) (outer : List Node) → drop (length ns) (nodes_from held k ns outer) ≡ outer
      all-dropped k [] outer = refl
      all-dropped k (n ∷ ns) outer = drop_suc (length ns) (nodes_from held (suc k) ns (node_at held k n ∷ outer)) ∙ ap (drop 1) (all-dropped (suc k) ns (node_at held k n ∷ outer))
  from-take k (suc j) [] outer le = absurd (omega (arith, le))
  from-take k (suc j) (n ∷ ns) outer le =
      let less : length ns - j ≡ suc (length ns) - suc j = omega arith in
      from-take (suc k) j ns (node_at held k n ∷ outer) (omega (arith, le)) ∙ ap (λ j. drop j (nodes_from held k (n ∷ ns) outer)) less

  pub cut-below : (k height : ℕ) (top : OpenNode) (ns : List OpenNode) → height < length ns → nodes_from held k (take (height + 1) ns) [] ≡ cut_to height (nodes_in held k top ns)
  cut-below k height top ns lt =
      let count = nodes-count k top ns in
      let more : suc (length ns - suc height) ≡ length (nodes_in held k top ns) - suc height = grind (arith, count, lt) in
      let one : height + 1 ≡ suc height = omega arith in
      ap (λ j. nodes_from held k (take j ns) []) one ∙ from-take k (suc height) ns [] lt ∙ ap (λ j. drop j (nodes_in held k top ns)) more

  pub cut-nothing : (k height : ℕ) (top : OpenNode) (ns : List OpenNode) → length ns ≤ height → nodes_in held k top ns ≡ cut_to height (nodes_in held k top ns)
  cut-nothing k height top ns le =
      let count = nodes-count k top ns in
      let none : length (nodes_in held k top ns) - suc height ≡ 0 = grind (arith, count, le) in
      ap (λ j. drop j (nodes_in held k top ns)) (sym none)

  pub finished-some : (k : ℕ) (top n : OpenNode) (ns : List OpenNode) → Some n ≡ slice_get ns 0 → built_in held n.children.items.items ≡ finished (nodes_in held k top ns)
  finished-some k top n [] e = absurd (search (rules, e))
  finished-some k top n (m ∷ ns) e =
      let same : n ≡ m = search (rules, e) in
      ap (λ (m : OpenNode). built_in held m.children.items.items) same ∙ sym (finished-first k top m ns)

  -- where none is below
  pub finished-alone : (k : ℕ) (top : OpenNode) (ns : List OpenNode) (many : ℕ) → many ≡ length ns → (many == 0) ≡ true → built_in held top.children.items.items ≡ finished (nodes_in held k top ns)
  finished-alone k top [] many e f = refl
  finished-alone k top (m ∷ ns) many e f = absurd (search (rules, sym (ap (λ m. m == 0) e) ∙ f))

  pub finished-zero : (k : ℕ) (top n : OpenNode) (ns : List OpenNode) (many : ℕ) → many ≡ length ns → (many == 0) ≡ false → n ≡ get_or ns 0 n → built_in held n.children.items.items ≡ finished (nodes_in held k top ns)
  finished-zero k top n [] many e f is = absurd (search (rules, sym (ap (λ m. m == 0) e) ∙ f))
  finished-zero k top n (m ∷ ns) many e f is = ap (λ (m : OpenNode). built_in held m.children.items.items) is ∙ sym (finished-first k top m ns)
