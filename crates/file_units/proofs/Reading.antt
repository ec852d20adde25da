-- Files that are read one after another.
use Rattle.std.proofs.Common.{◌≡◌, ℕ, suc, ◌+◌, ◌-◌, List, [], ◌∷◌, ◌++◌, length, drop, take, Bool, Option, Some, None, Ok, Err, IfSome, map as each, refl, sym, ap, subst, ◌∙◌, inl, inr, arith, append_assoc, append-nil, take-append-drop}
use Rattle.ytt_base.specs.declared.fault.Fault.{Fault}
use Rattle.ytt_base.specs.declared.fault.Stop.{Stop}
use Rattle.ytt_base.specs.declared.fault.Stop.TheVariants as plain_stop
use Rattle.ytt_base.specs.Outcomes.{Outcome, and_then}
use Rattle.ytt_outside.specs.Counts.{Rose}
use Rattle.code_spec.specs.CodeReading.{CodeReader}
use Rattle.file_find.proofs.Runs.{Leads, leads_on, leads_then}
use Rattle.file_find.specs.Comes.{HasPath}
use Rattle.file_find.specs.Finds.{file_of, stop_of}
use Rattle.file_find.specs.Reads as one
use Rattle.file_find.specs.declared.found.FindStop.{FindStop}
use Rattle.file_find.specs.declared.found.FindStop.TheVariants as find_stop
use Rattle.file_find.specs.declared.found.FoundFile as held
use Rattle.file_spec.specs.Asked.{Ask, AsksFor, Traced, after_one, bytes_of, found, told, with_outcome, ◌>>=◌}
use Rattle.file_spec.specs.Finding.{FoundFile}
use Rattle.file_spec.specs.Limits.{largest_whole}
use Rattle.file_spec.specs.Reading.{bytes_within, limit_of, read_from}
use Rattle.star_functions.specs.declared.programs.FileBlock.{FileBlock}
use Rattle.star_grammar.specs.CodeReaders.{IsCodeReader, MeansCode}
use Rattle.world_spec.specs.Units.{FileUnit, names_of, role_of, source_of, unit_of, unit_read}
use Rattle.ytt_spec.specs.Meaning.{AreRead, files_read, found_names}
use Rattle.file_units.specs.Files.{AreFilesRead, IsReached, IsRead, IsWholeAs, ReadsFile, ReadsFiles, ReadsSource, RefusesFiles, file_read}
use Rattle.file_units.specs.Held.{AreHeld, IsHeld, IsWhole, MayRun}
use Rattle.file_units.specs.Reads.{Tree}
use Rattle.file_units.specs.Stops.{FailsAt}
use Rattle.file_units.specs.declared.units.Content.{Content}
use Rattle.file_units.specs.declared.units.HeldFile.{HeldFile}

-- ---- one file

module _ (ignore : Bool) (n : ℕ) (f : FoundFile) (before now : ℕ) where
  -- its bytes weren't read
  pub unread : (tree : Option Tree) (e : FindStop) → IfSome tree (λ t. one.Reads (bytes_within (limit_of before) f.path (t f.path)) (Err e)) → ReadsFile ignore n f before now tree (Err e)
  unread None (find_stop.Fault g) h = tt
  unread (Some t) (find_stop.Fault g) h = λ r reads. ap (and_then (unit_read r ignore n f)) h
  unread tree (find_stop.ReadFailed path) h = tt
  unread tree find_stop.Memory h = tt

  module _ (bytes : List ℕ) where
    -- they mean nothing
    pub meaningless : (tree : Option Tree) (s : Stop) → IfSome tree (λ t. bytes_within (limit_of before) f.path (t f.path) ≡ Ok bytes)
        → ReadsSource n (role_of f.name) (Err s) (λ r. source_of r ignore n f.name bytes) → ReadsFile ignore n f before now tree (Err (stop_of s))
    meaningless None (plain_stop.Fault g) within h = tt
    meaningless (Some t) (plain_stop.Fault g) within h = λ r reads. ap (and_then (unit_read r ignore n f)) within ∙ ap (and_then (λ s. Ok (unit_of f s))) (h r reads)
    meaningless tree plain_stop.Memory within h = tt

    pub was_read : (tree : Option Tree) (h : HeldFile) → IfSome tree (λ t. bytes_within (limit_of before) f.path (t f.path) ≡ Ok bytes) → now ≡ before - length bytes
        → ReadsSource n (role_of f.name) (Ok h) (λ r. source_of r ignore n f.name bytes) → IsRead ignore n f before now tree h
    was_read tree h within left g = record {
      bytes = bytes;
      source = g.0;
      told = within;
      left = left;
      means = λ r reads. ap (and_then (λ s. Ok (unit_of f s))) (g.1 r reads);
      held = record { role_is = g.2; holds = g.3 };
    }

pub fails_first : (path : List ℕ) (before now : ℕ) (e : FindStop) → one.FailsAt path before now (Err e) → FailsAt {A = HeldFile} (λ p. p ≡ path) before now (Err e)
fails_first path before now (find_stop.Fault g) h = h
fails_first path before now (find_stop.ReadFailed p) h = h
fails_first path before now find_stop.Memory h = tt

pub fails_still : (At : List ℕ → Type 0) (before now : ℕ) (s : Stop) → now ≡ before → FailsAt {A = HeldFile} At before now (Err (stop_of s))
fails_still At before now (plain_stop.Fault g) h = h
fails_still At before now plain_stop.Memory h = tt

-- where nothing had failed before
pub fails_later : (A B : Type 0) (At Far : List ℕ → Type 0) (first before now : ℕ) (e : FindStop) → before ≡ first → ((path : List ℕ) → At path → Far path) → FailsAt {A = A} At before now (Err e) → FailsAt {A = B} Far first now (Err e)
fails_later A B At Far first before now (find_stop.Fault g) still far h = h ∙ still
fails_later A B At Far first before now (find_stop.ReadFailed path) still far h = (subst (λ b. Rose b now) still h.0, far path h.1)
fails_later A B At Far first before now find_stop.Memory still far h = tt

-- ---- units in front of those that follow

abbrev behind : List FileUnit → Traced (List FileUnit) → Traced (List FileUnit)
behind us t = t >>= λ more. found (us ++ more)

no_asks : (us : List FileUnit) (o : Outcome (List FileUnit)) → (with_outcome o (λ more. found (us ++ more))).asks ≡ []
no_asks us (Ok more) = refl
no_asks us (Err e) = refl

same_asks : (us : List FileUnit) (t : Traced (List FileUnit)) → (behind us t).asks ≡ t.asks
same_asks us t = ap (λ asks. t.asks ++ asks) (no_asks us t.outcome) ∙ append-nil t.asks

asks_so : (path : List ℕ) (a b : List Ask) → a ≡ b → AsksFor path b → AsksFor path a
asks_so path a b e h = subst (AsksFor path) (sym e) h

outcome_none : (o : Outcome (List FileUnit)) → o ≡ (with_outcome o (λ more. found ([] ++ more))).outcome
outcome_none (Ok more) = refl
outcome_none (Err e) = refl

leads_none : (t : Traced (List FileUnit)) → Leads t (behind [] t)
leads_none t = record { outcome = outcome_none t.outcome; asks = λ path h. asks_so path t.asks (behind [] t).asks (sym (same_asks [] t)) h }

leads_behind : (us : List FileUnit) (a b : Traced (List FileUnit)) → Leads a b → Leads (behind us a) (behind us b)
leads_behind us a b l = record {
  outcome = ap (λ o. (with_outcome o (λ more. found (us ++ more))).outcome) l.outcome;
  asks = λ path h. asks_so path (behind us a).asks a.asks (same_asks us a) (l.asks path (asks_so path b.asks (behind us b).asks (sym (same_asks us b)) h));
}

outcome_twice : (us : List FileUnit) (u : FileUnit) (o : Outcome (List FileUnit)) →
    (with_outcome (with_outcome o (λ more. found (u ∷ more))).outcome (λ more. found (us ++ more))).outcome ≡ (with_outcome o (λ more. found ((us ++ u ∷ []) ++ more))).outcome
outcome_twice us u (Ok more) = ap Ok (sym (append_assoc us (u ∷ []) more))
outcome_twice us u (Err e) = refl

leads_twice : (us : List FileUnit) (u : FileUnit) (t : Traced (List FileUnit)) → Leads (behind us (behind (u ∷ []) t)) (behind (us ++ u ∷ []) t)
leads_twice us u t = record {
  outcome = outcome_twice us u t.outcome;
  asks = λ path h. asks_so path (behind us (behind (u ∷ []) t)).asks t.asks (same_asks us (behind (u ∷ []) t) ∙ same_asks (u ∷ []) t)
      (asks_so path t.asks (behind (us ++ u ∷ []) t).asks (sym (same_asks (us ++ u ∷ []) t)) h);
}

-- ---- the next file

err_same : {A : Type 0} (g e : Fault) (o : Outcome A) → o ≡ Err g → o ≡ Err e → g ≡ e
err_same g e o h k = cc

module _ (t : Tree) (meaning : (number : ℕ) → FoundFile → (bytes : List ℕ) → Outcome FileUnit) (n left : ℕ) (f : FoundFile) (fs : List FoundFile) where
  abbrev rest_of : List ℕ → Traced (List FileUnit)
  rest_of bytes = read_from t meaning (n + 1) (left - length bytes) fs

  abbrev unit_behind : List ℕ → Traced (List FileUnit)
  unit_behind bytes = told (meaning n f bytes) >>= λ u. rest_of bytes >>= λ us. found (u ∷ us)

  next_read : (bytes : List ℕ) (u : FileUnit) → bytes_within (limit_of left) f.path (t f.path) ≡ Ok bytes → meaning n f bytes ≡ Ok u →
      Leads (read_from t meaning n left (f ∷ fs)) (behind (u ∷ []) (rest_of bytes))
  next_read bytes u e k =
      leads_on (read_from t meaning n left (f ∷ fs)) (unit_behind bytes) (behind (u ∷ []) (rest_of bytes))
      (leads_then (after_one (bytes_of f.path) (told (bytes_within (limit_of left) f.path (t f.path)))) unit_behind bytes e)
      (leads_then (told (meaning n f bytes)) (λ u. rest_of bytes >>= λ us. found (u ∷ us)) u k)

  refused_so : (o : Outcome (List ℕ)) (e : Fault) → and_then (meaning n f) o ≡ Err e → (with_outcome o unit_behind).outcome ≡ Err e
  refused_so (Ok bytes) e h = ap (λ m. (with_outcome m (λ u. rest_of bytes >>= λ us. found (u ∷ us))).outcome) h
  refused_so (Err g) e h = ap Err (err_same g e (Err g) refl h)

  next_refused : (e : Fault) → and_then (meaning n f) (bytes_within (limit_of left) f.path (t f.path)) ≡ Err e → (read_from t meaning n left (f ∷ fs)).outcome ≡ Err e
  next_refused e h = refused_so (bytes_within (limit_of left) f.path (t f.path)) e h

  next_asks : (path : List ℕ) → path ≡ f.path → AsksFor path (read_from t meaning n left (f ∷ fs)).asks
  next_asks path e = inl (sym e)

-- ---- one more at the end

module _ (u : FileUnit) (b : FileBlock) (c : Content) where
  held_more : (n k : ℕ) (us : List FileUnit) (bs : List FileBlock) (cs : List Content) → n + length us ≡ k → AreHeld n us bs cs → IsHeld k u b c → AreHeld n (us ++ u ∷ []) (bs ++ b ∷ []) (cs ++ c ∷ [])
  held_more n k [] [] [] e h o = let same : k ≡ n = omega (arith, e) in (subst (λ m. IsHeld m u b c) same o, tt)
  held_more n k (x ∷ us) (y ∷ bs) (z ∷ cs) e h o = let next : suc n + length us ≡ k = omega (arith, e) in (h.0, held_more (suc n) k us bs cs next h.1 o)
  held_more n k [] [] (z ∷ cs) e h o = absurd h
  held_more n k [] (y ∷ bs) [] e h o = absurd h
  held_more n k [] (y ∷ bs) (z ∷ cs) e h o = absurd h
  held_more n k (x ∷ us) [] [] e h o = absurd h
  held_more n k (x ∷ us) [] (z ∷ cs) e h o = absurd h
  held_more n k (x ∷ us) (y ∷ bs) [] e h o = absurd h

  runs_more : (n k : ℕ) (us : List FileUnit) (bs : List FileBlock) (cs : List Content) → n + length us ≡ k → AreHeld n us bs cs → MayRun n bs cs → (b.file ≡ k) × IsWhole b c → MayRun n (bs ++ b ∷ []) (cs ++ c ∷ [])
  runs_more n k [] [] [] e h g o = let same : k ≡ n = omega (arith, e) in (o.0 ∙ same, o.1, tt)
  runs_more n k (x ∷ us) (y ∷ bs) (z ∷ cs) e h g o = let next : suc n + length us ≡ k = omega (arith, e) in (g.0, g.1, runs_more (suc n) k us bs cs next h.1 g.2 o)
  runs_more n k [] [] (z ∷ cs) e h g o = absurd h
  runs_more n k [] (y ∷ bs) [] e h g o = absurd h
  runs_more n k [] (y ∷ bs) (z ∷ cs) e h g o = absurd h
  runs_more n k (x ∷ us) [] [] e h g o = absurd h
  runs_more n k (x ∷ us) [] (z ∷ cs) e h g o = absurd h
  runs_more n k (x ∷ us) (y ∷ bs) [] e h g o = absurd h

abbrev IsReadAs : Bool → ℕ → FileUnit → Type 0
IsReadAs ignore k u = (f : FoundFile) × (bytes : List ℕ) × MeansCode (λ r. unit_read r ignore k f bytes) (Ok u)

read_more : (ignore : Bool) (u : FileUnit) (n k : ℕ) (us : List FileUnit) → n + length us ≡ k → AreRead ignore n us → IsReadAs ignore k u → AreRead ignore n (us ++ u ∷ [])
read_more ignore u n k [] e h o = let same : k ≡ n = omega (arith, e) in (subst (λ m. IsReadAs ignore m u) same o, tt)
read_more ignore u n k (x ∷ us) e h o = let next : suc n + length us ≡ k = omega (arith, e) in (h.0, read_more ignore u (suc n) k us next h.1 o)

names_more : (us : List FileUnit) (u : FileUnit) (names : List (List ℕ)) → names_of (us ++ u ∷ []) ++ names ≡ names_of us ++ u.name ∷ names
names_more [] u names = refl
names_more (x ∷ us) u names = ap (λ ns. x.name ∷ ns) (names_more us u names)

length_more : (us : List FileUnit) (u : FileUnit) → length (us ++ u ∷ []) ≡ suc (length us)
length_more [] u = refl
length_more (x ∷ us) u = ap suc (length_more us u)

-- ---- where reading has come to

-- These are left, the next one with this number, and units were read of those before; the whole is what was read, and what is left.
pub record IsOn (ignore : Bool) (fs : List FoundFile) (tree : Option Tree) (n left : ℕ) (rest : List FoundFile) (blocks : List FileBlock) (contents : List Content) : Type 0 where
  pub units : List FileUnit
  pub count : 1 + length units ≡ n
  pub read : AreRead ignore 1 units
  pub are_held : AreHeld 1 units blocks contents
  pub may_run : MayRun 1 blocks contents
  pub names : names_of units ++ found_names rest ≡ found_names fs
  pub leads : IfSome tree (λ t. (r : CodeReader) → IsCodeReader r → Leads (files_read r ignore t fs) (behind units (read_from t (unit_read r ignore) n left rest)))

module _ (ignore : Bool) (fs : List FoundFile) (tree : Option Tree) where
  pub begins : (blocks : List FileBlock) (contents : List Content) → blocks ≡ [] → contents ≡ [] → IsOn ignore fs tree 1 largest_whole fs blocks contents
  begins blocks contents e k =
      let P : List FileBlock → Type 0 = λ bs. IsOn ignore fs tree 1 largest_whole fs bs contents in
      let Q : List Content → Type 0 = λ cs. IsOn ignore fs tree 1 largest_whole fs [] cs in
      subst P (sym e) (subst Q (sym k) (record { units = []; count = refl; read = tt; are_held = tt; may_run = tt; names = refl; leads = by tree }))
    where
      by : (tree : Option Tree) → IfSome tree (λ t. (r : CodeReader) → IsCodeReader r → Leads (files_read r ignore t fs) (behind [] (read_from t (unit_read r ignore) 1 largest_whole fs)))
      by None = tt
      by (Some t) = λ r reads. leads_none (files_read r ignore t fs)

  -- nothing is left
  pub ends : (n left : ℕ) (blocks : List FileBlock) (contents : List Content) → IsOn ignore fs tree n left [] blocks contents → AreFilesRead ignore fs tree blocks contents
  ends n left blocks contents on = record {
    units = on.units;
    read = on.read;
    are_held = on.are_held;
    names_are = sym (append-nil (names_of on.units)) ∙ on.names;
    told = by tree on.leads;
  }
    where
      by : (tree : Option Tree) → IfSome tree (λ t. (r : CodeReader) → IsCodeReader r → Leads (files_read r ignore t fs) (behind on.units (read_from t (unit_read r ignore) n left [])))
          → IfSome tree (λ t. MeansCode (λ r. (files_read r ignore t fs).outcome) (Ok on.units))
      by None l = tt
      by (Some t) l = λ r reads. (l r reads).outcome ∙ ap Ok (append-nil on.units)

  module _ (n left : ℕ) (f : FoundFile) (rest : List FoundFile) (blocks : List FileBlock) (contents : List Content) (on : IsOn ignore fs tree n left (f ∷ rest) blocks contents) where
    abbrev Leading : Option Tree → Type 0
    Leading tree = IfSome tree (λ t. (r : CodeReader) → IsCodeReader r → Leads (files_read r ignore t fs) (behind on.units (read_from t (unit_read r ignore) n left (f ∷ rest))))

    -- one file more
    pub goes_on : (now : ℕ) (h : HeldFile) → IsRead ignore n f left now tree h → IsWholeAs n h → IsOn ignore fs tree (n + 1) now rest (blocks ++ h.block ∷ []) (contents ++ h.content ∷ [])
    goes_on now h is whole = record {
      units = on.units ++ u ∷ [];
      count = next;
      read = read_more ignore u 1 n on.units on.count on.read (f, is.bytes, is.means);
      are_held = held_more u h.block h.content 1 n on.units blocks contents on.count on.are_held is.held;
      may_run = runs_more u h.block h.content 1 n on.units blocks contents on.count on.are_held on.may_run whole;
      names = names_more on.units u (found_names rest) ∙ on.names;
      leads = by tree is.told on.leads;
    }
      where
        u : FileUnit
        u = unit_of f is.source

        next : 1 + length (on.units ++ u ∷ []) ≡ n + 1
        next = let e = on.count in let m = length_more on.units u in omega (arith, e, m)

        by : (tree : Option Tree) → IfSome tree (λ t. bytes_within (limit_of left) f.path (t f.path) ≡ Ok is.bytes) → Leading tree
            → IfSome tree (λ t. (r : CodeReader) → IsCodeReader r → Leads (files_read r ignore t fs) (behind (on.units ++ u ∷ []) (read_from t (unit_read r ignore) (n + 1) now rest)))
        by None within l = tt
        by (Some t) within l = λ r reads.
            let m = unit_read r ignore in
            let tail = read_from t m (n + 1) (left - length is.bytes) rest in
            let whole = files_read r ignore t fs in
            let P : ℕ → Type 0 = λ k. Leads whole (behind (on.units ++ u ∷ []) (read_from t m (n + 1) k rest)) in
            subst P (sym is.left)
            (leads_on whole (behind on.units (read_from t m n left (f ∷ rest))) (behind (on.units ++ u ∷ []) tail) (l r reads)
            (leads_on (behind on.units (read_from t m n left (f ∷ rest))) (behind on.units (behind (u ∷ []) tail)) (behind (on.units ++ u ∷ []) tail)
            (leads_behind on.units (read_from t m n left (f ∷ rest)) (behind (u ∷ []) tail) (next_read t m n left f rest is.bytes u within (is.means r reads)))
            (leads_twice on.units u tail)))

    -- or its fault
    pub stops : (now : ℕ) (e : FindStop) → ReadsFile ignore n f left now tree (Err e) → ReadsFiles ignore fs tree (Err e)
    stops now (find_stop.Fault g) h = by tree on.leads h
      where
        by : (tree : Option Tree) → Leading tree → IfSome tree (λ t. MeansCode (λ r. file_read r ignore n f left t) (Err g)) → RefusesFiles ignore fs tree (Err g)
        by None l h = tt
        by (Some t) l h = λ r reads. (l r reads).outcome ∙ ap (λ o. (with_outcome o (λ more. found (on.units ++ more))).outcome) (next_refused t (unit_read r ignore) n left f rest g (h r reads))
    stops now (find_stop.ReadFailed path) h = tt
    stops now find_stop.Memory h = tt

    -- a path at which the files failed
    pub reaches : HasPath f.path fs → (path : List ℕ) → path ≡ f.path → IsReached ignore fs tree path
    reaches has path e = by tree on.leads
      where
        by : (tree : Option Tree) → Leading tree → IsReached ignore fs tree path
        by None l = subst (λ p. HasPath p fs) (sym e) has
        by (Some t) l = λ r reads.
            let left_behind = read_from t (unit_read r ignore) n left (f ∷ rest) in
            (l r reads).asks path (asks_so path (behind on.units left_behind).asks left_behind.asks (same_asks on.units left_behind) (next_asks t (unit_read r ignore) n left f rest path e))

-- ---- the file at an index

has_behind : (path : List ℕ) (front back : List held.FoundFile) → HasPath path (each file_of back) → HasPath path (each file_of (front ++ back))
has_behind path [] back h = h
has_behind path (g ∷ front) back h = inr (has_behind path front back h)

pub has_at : (gs : List held.FoundFile) (i : ℕ) (g : held.FoundFile) (rest : List held.FoundFile) → drop i gs ≡ g ∷ rest → HasPath g.path (each file_of gs)
has_at gs i g rest e =
    let P : List held.FoundFile → Type 0 = λ gs. HasPath g.path (each file_of gs) in
    subst P (ap (λ back. take i gs ++ back) (sym e) ∙ take-append-drop i gs) (has_behind g.path (take i gs) (g ∷ rest) (inl refl))
