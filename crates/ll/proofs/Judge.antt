-- What the machine answers is what the grammar says.
use Rattle.std.proofs.Common.{◌≡◌, ℕ, ◌+◌, ◌<◌, ◌≤◌, max, List, [], ◌∷◌, ◌++◌, Option, Some, None, refl, sym, ap, ◌∙◌, subst, ⊎_elim, arith, append_assoc, append-nil}
use Rattle.std.specs.Prelude.{zero, suc, Bool, true, false, if◌then◌else◌}
use Rattle.std.specs.Option.{option_and_then, option_map}
use Rattle.std.proofs.lemmas.Bool.{cond-true, cond-false, le-leb, lt-leb, cases_lt}
use Rattle.ll.specs.Grammar.{Symbol, terminal, rule, Grammar, Symbols, Entry, Source, done, token, node, Parts, IsWhole, spell, Parses, Front, FormAt, DeepAt}
use Rattle.ll.specs.Machine.{Item, want, close, Stack, State, Tables, state, wants, ended, opened, at_start, turns, allowed, step, next, finished, go_on, read, Verdict, Whole, Unfinished, Form, Deep}
use Rattle.ll.proofs.Laws.{Ahead, ahead, Followed, Consistent, Ended, Rising, Goes, Completed, Completes}
use Rattle.ll.proofs.Complete.{Next, closing_ended, closes_ended, allowed-from, opens_at, reads, took, leads}

-- what the grammar says of a verdict
abbrev pub Judged : (g : Grammar) → Entry g → ℕ → List g.Token → Verdict g.Token g.Value → Type 0
Judged g from limit ts (Whole w) = Parses g from limit ts w
Judged g from limit ts Unfinished = Front g from limit ts
Judged g from limit ts (Form rest) = (before : List g.Token) × (k : g.Token) × (ks : List g.Token) × (rest ≡ k ∷ ks) × (ts ≡ before ++ k ∷ ks) × FormAt g from limit before k
Judged g from limit ts (Deep rest) = (before : List g.Token) × (k : g.Token) × (ks : List g.Token) × (rest ≡ k ∷ ks) × (ts ≡ before ++ k ∷ ks) × DeepAt g from limit before k

module _ (g : Grammar) where
  -- the parts of an alternative, out of what goes on
  record Collected (xs : Symbols g) (rest : Stack g) (v : g.Value) (ts : List g.Token) (w : g.Value) : Type 0 where
    source : Parts g
    value : g.Value
    more : List g.Token
    spelled : ts ≡ spell source more
    whole : IsWhole g xs source v value
    goes : Goes g rest value more w

  collect : (xs : Symbols g) (rest : Stack g) (v : g.Value) (ts : List g.Token) (w : g.Value) → Goes g (wants g xs rest) v ts w → Collected xs rest v ts w
  collect [] rest v ts w e = record { source = done; value = v; more = ts; spelled = refl; whole = refl; goes = e }
  collect (terminal a ∷ xs) rest v ts w e =
      let q = collect xs rest e.1 e.2 w e.5 in
      record { source = token e.0 q.source; value = q.value; more = q.more; spelled = e.3 ∙ ap (λ l. e.0 ∷ l) q.spelled; whole = (e.1, e.4, q.whole); goes = q.goes }
  collect (rule r ∷ xs) rest v ts w e =
      let q = collect xs rest (g.finish e.0 e.2) e.3 w e.8 in
      record { source = node e.0 e.1 q.source; value = q.value; more = q.more; spelled = e.4 ∙ ap (spell e.1) q.spelled; whole = (e.2, e.5, e.6, e.7, q.whole); goes = q.goes }

  -- the whole text
  text_of : (from : Entry g) (limit : ℕ) (ts : List g.Token) (w : g.Value) → Goes g (at_start g from) from.empty ts w → g.height w ≤ limit → Parses g from limit ts w
  text_of from limit ts w e low =
      let q = collect (rule from.start ∷ terminal from.end ∷ []) [] from.empty ts w e in
      record {
        source = q.source;
        spelled = ap (spell q.source) (sym q.goes.1) ∙ sym q.spelled;
        whole = subst (IsWhole g (rule from.start ∷ terminal from.end ∷ []) q.source from.empty) q.goes.0 q.whole;
        low = low;
      }

module _ (g : Grammar) (t : Tables g) (l : Ahead g t) (is : Consistent g t l) (up : Rising g t) (all : Completes g t) (from : Entry g) (behind : Ended g t l from) where
  -- ---- every whole text is read

  reads_source : (s : Parts g) (w : g.Value) (limit : ℕ) → IsWhole g (rule from.start ∷ terminal from.end ∷ []) s from.empty w → t.least [] w ≤ limit
      → read g t limit (spell s []) (at_start g from) from.empty ≡ Whole w
  unfolding read
  reads_source done w limit e low = absurd e
  reads_source (token k s) w limit e low = absurd e
  reads_source (node c inner done) w limit e low = absurd e.4
  reads_source (node c inner (node d more s)) w limit e low = absurd e.4
  reads_source (node c inner (token k (token j s))) w limit e low = absurd e.4.2
  reads_source (node c inner (token k (node d more s))) w limit e low = absurd e.4.2
  reads_source (node c inner (token k done)) w limit e low =
      let last = is.taken from.end k (g.finish c e.0) e.4.0 e.4.1 in
      let follows : Next g t l is up (l.follow (g.head c)) (k ∷ []) = rw e.1 (behind (t.class k) last) in
      let same : t.least [] e.4.0 ≤ limit = rw e.4.2 low in
      let high = up.taking from.end [] k (g.finish c e.0) e.4.0 e.4.1 in
      opens_at g t l is up limit (spell inner (k ∷ [])) from.start c (want (terminal from.end) ∷ []) from.empty e.1 e.2 (leads g t l is up inner (g.body c) (l.follow (g.head c)) from.empty e.0 (k ∷ []) (is.followed c) e.3 follows)
      ∙ reads g t l is up inner (g.body c) (l.follow (g.head c)) limit (ended g c (want (terminal from.end) ∷ [])) from.empty e.0 (k ∷ []) (is.followed c) e.3 follows
      (omega (arith, closing_ended g t l is up c (want (terminal from.end) ∷ []) e.0, high, same))
      ∙ closes_ended g t l is up limit (k ∷ []) c (want (terminal from.end) ∷ []) e.0
      ∙ took g t l is up limit k [] (want (terminal from.end) ∷ []) (g.finish c e.0) (state g [] e.4.0) (ap (option_map (state g [])) e.4.1) same
      ∙ ap Whole e.4.2

  pub reads_text : (limit : ℕ) (ts : List g.Token) (w : g.Value) → Parses g from limit ts w → read g t limit ts (at_start g from) from.empty ≡ Whole w
  reads_text limit ts w p = ap (λ k. read g t limit k (at_start g from) from.empty) (sym p.spelled) ∙ reads_source p.source w limit p.whole (omega (arith, up.ending w, p.low))

  same_whole : (v w : g.Value) → ◌≡◌ {A = Verdict g.Token g.Value} (Whole v) (Whole w) → v ≡ w
  same_whole v w e = cc

  -- tokens have at most one value
  pub one_value : (limit : ℕ) (ts : List g.Token) (v w : g.Value) → Parses g from limit ts v → Parses g from limit ts w → v ≡ w
  one_value limit ts v w p q = same_whole v w (sym (reads_text limit ts v p) ∙ reads_text limit ts w q)

  -- ---- a token

  -- a token leads from one state to another
  record Went (k : g.Token) (stack : Stack g) (v : g.Value) (s : State g) : Type 0 where
    low : t.least stack v ≤ t.least s.stack s.value
    back : (ts : List g.Token) (w : g.Value) → Goes g s.stack s.value ts w → Goes g stack v (k ∷ ts) w

  goes_ended : (c : g.Choice) (rest : Stack g) (v : g.Value) (ts : List g.Token) (w : g.Value) → Goes g (ended g c rest) v ts w → Goes g rest (g.finish c v) ts w
  goes_ended c rest v ts w = on (g.silent c) refl
    where
      on : (b : Bool) → g.silent c ≡ b → Goes g (if b then rest else close c ∷ rest) v ts w → Goes g rest (g.finish c v) ts w
      on true e q = rw (is.quiet c v e) q
      on false e q = q

  abbrev WentTo : g.Token → Stack g → g.Value → Option (State g) → Type 0
  WentTo k stack v None = Unit {0}
  WentTo k stack v (Some s) = Went k stack v s

  goes : (n : ℕ) (k : g.Token) (stack : Stack g) (v : g.Value) → WentTo k stack v (step g t n k stack v)
  goes zero k stack v = tt
  goes (suc n) k [] v = tt
  goes (suc n) k (close c ∷ rest) v = on (step g t n k rest (g.finish c v)) (goes n k rest (g.finish c v))
    where
      on : (o : Option (State g)) → WentTo k rest (g.finish c v) o → WentTo k (close c ∷ rest) v o
      on None w = tt
      on (Some s) w = record { low = omega (arith, up.closing c rest v, w.low); back = w.back }
  goes (suc n) k (want (terminal a) ∷ rest) v = on (g.shift a k v) refl
    where
      on : (o : Option g.Value) → g.shift a k v ≡ o → WentTo k (want (terminal a) ∷ rest) v (option_map (state g rest) o)
      on None e = tt
      on (Some u) e = record { low = up.taking a rest k v u e; back = λ ts w q. (k, u, ts, refl, e, q) }
  goes (suc n) k (want (rule r) ∷ rest) v = on (allowed g t v (t.predict r (t.class k))) refl
      (λ c h a. goes n k (opened g c rest) v)
    where
      on : (o : Option g.Choice) → allowed g t v (t.predict r (t.class k)) ≡ o → ((c : g.Choice) → g.head c ≡ r → g.allows c v ≡ true → WentTo k (opened g c rest) v (step g t n k (opened g c rest) v))
          → WentTo k (want (rule r) ∷ rest) v (option_and_then (λ c. step g t n k (opened g c rest) v) o)
      on None e f = tt
      on (Some c) e f =
          let q = allowed-from g t l is up v (t.predict r (t.class k)) c e in
          let h : g.head c ≡ r = is.headed r (t.class k) c q.0 in
          through c h q.1 (step g t n k (opened g c rest) v) (f c h q.1)
        where
          through : (c : g.Choice) → g.head c ≡ r → g.allows c v ≡ true → (o : Option (State g)) → WentTo k (opened g c rest) v o → WentTo k (want (rule r) ∷ rest) v o
          through c h a None w = tt
          through c h a (Some s) w =
              let low = rw h at (up.opening c rest v a) in
              record {
                low = omega (arith, low, w.low);
                back = λ ts u q.
                    let p = collect g (g.body c) (ended g c rest) v (k ∷ ts) u (w.back ts u q) in
                    (c, p.source, p.value, p.more, p.spelled, h, a, p.whole, goes_ended c rest p.value p.more u p.goes);
              }

  -- ---- the least token that is refused

  -- where the machine stands after some tokens
  record Stands (limit : ℕ) (pre : List g.Token) (stack : Stack g) (v : g.Value) : Type 0 where
    low : t.least stack v ≤ limit
    back : (ts : List g.Token) (w : g.Value) → Goes g stack v ts w → Goes g (at_start g from) from.empty (pre ++ ts) w
    reaches : (h : ℕ) → limit ≤ h → (ks : List g.Token) → read g t h (pre ++ ks) (at_start g from) from.empty ≡ read g t h ks stack v

  front_of : (limit : ℕ) (pre : List g.Token) (stack : Stack g) (v : g.Value) → t.least stack v ≤ limit
      → ((ts : List g.Token) (w : g.Value) → Goes g stack v ts w → Goes g (at_start g from) from.empty (pre ++ ts) w) → Front g from limit pre
  front_of limit pre stack v low back =
      let c = all stack v in
      record { rest = c.tokens; value = c.value; text = text_of g from limit (pre ++ c.tokens) c.value (back c.tokens c.value c.goes) (omega (arith, c.low)) }

  pub refuses_form : (limit : ℕ) (k : g.Token) (ks : List g.Token) (stack : Stack g) (v : g.Value) → next g t k stack v ≡ None → read g t limit (k ∷ ks) stack v ≡ Form (k ∷ ks)
  unfolding read
  refuses_form limit k ks stack v e = ap (go_on g t limit (k ∷ ks) (read g t limit ks)) e

  pub refuses_deep : (limit : ℕ) (k : g.Token) (ks : List g.Token) (stack : Stack g) (v : g.Value) (s : State g) → next g t k stack v ≡ Some s → limit < t.least s.stack s.value
      → read g t limit (k ∷ ks) stack v ≡ Deep (k ∷ ks)
  unfolding read
  refuses_deep limit k ks stack v s e lt = ap (go_on g t limit (k ∷ ks) (read g t limit ks)) e ∙ cond-false _ _ _ (lt-leb (t.least s.stack s.value) limit lt)

  never_form : (w : g.Value) (ts : List g.Token) → Whole w ≡ Form ts → ⊥
  never_form w ts e = cc

  never_deep : (w : g.Value) (ts : List g.Token) → Whole w ≡ Deep ts → ⊥
  never_deep w ts e = cc

  -- what begins with this token is read from here
  whole_or : (h g' : ℕ) (pre : List g.Token) (k : g.Token) (stack : Stack g) (v : g.Value) → (f : Front g from h (pre ++ k ∷ [])) → h ≤ g'
      → ((ks : List g.Token) → read g t g' (pre ++ ks) (at_start g from) from.empty ≡ read g t g' ks stack v) → Whole f.value ≡ read g t g' (k ∷ f.rest) stack v
  whole_or h g' pre k stack v f le reach =
      let p = f.text in
      sym (reads_text g' ((pre ++ k ∷ []) ++ f.rest) f.value (record { source = p.source; spelled = p.spelled; whole = p.whole; low = omega (arith, p.low) }))
      ∙ ap (λ ks. read g t g' ks (at_start g from) from.empty) (append_assoc pre (k ∷ []) f.rest)
      ∙ reach (k ∷ f.rest)

  form_judged : (limit : ℕ) (pre : List g.Token) (stack : Stack g) (v : g.Value) (k : g.Token) → Stands limit pre stack v → next g t k stack v ≡ None → FormAt g from limit pre k
  form_judged limit pre stack v k s e = record {
    front = front_of limit pre stack v s.low s.back;
    none = λ h f.
        let most = max limit h in
        never_form f.value (k ∷ f.rest) (whole_or h most pre k stack v f (omega arith) (s.reaches most (omega arith)) ∙ refuses_form most k f.rest stack v e);
  }

  onward : (limit : ℕ) (pre : List g.Token) (stack : Stack g) (v : g.Value) (k : g.Token) (s : State g) → Stands limit pre stack v → Went k stack v s
      → (ts : List g.Token) (w : g.Value) → Goes g s.stack s.value ts w → Goes g (at_start g from) from.empty ((pre ++ k ∷ []) ++ ts) w
  onward limit pre stack v k s st w ts u q = rw append_assoc (st.back (k ∷ ts) u (w.back ts u q))

  deep_judged : (limit : ℕ) (pre : List g.Token) (stack : Stack g) (v : g.Value) (k : g.Token) (s : State g) → Stands limit pre stack v → next g t k stack v ≡ Some s
      → Went k stack v s → limit < t.least s.stack s.value → DeepAt g from limit pre k
  deep_judged limit pre stack v k s st e w lt = record {
    front = front_of limit pre stack v st.low st.back;
    tall = (t.least s.stack s.value, front_of (t.least s.stack s.value) (pre ++ k ∷ []) s.stack s.value (omega arith) (onward limit pre stack v k s st w));
    not_low = λ f. never_deep f.value (k ∷ f.rest) (whole_or limit limit pre k stack v f (omega arith) (st.reaches limit (omega arith)) ∙ refuses_deep limit k f.rest stack v s e lt);
  }

  stands_on : (limit : ℕ) (pre : List g.Token) (stack : Stack g) (v : g.Value) (k : g.Token) (s : State g) → Stands limit pre stack v → next g t k stack v ≡ Some s
      → Went k stack v s → t.least s.stack s.value ≤ limit → Stands limit (pre ++ k ∷ []) s.stack s.value
  stands_on limit pre stack v k s st e w low = record {
    low = low;
    back = onward limit pre stack v k s st w;
    reaches = λ h le ts.
        ap (λ ks. read g t h ks (at_start g from) from.empty) (append_assoc pre (k ∷ []) ts) ∙ st.reaches h le (k ∷ ts) ∙ took g t l is up h k ts stack v s e (omega arith);
  }

  -- ---- the end

  ends : (P : Verdict g.Token g.Value → Type 0) (stack : Stack g) (v : g.Value) → ((w : g.Value) → Goes g stack v [] w → ((ts : List g.Token) (u : g.Value) → Goes g stack v ts u → w ≡ u) → P (Whole w))
      → P Unfinished → P (finished g t stack v)
  ends P [] v f u = f v (refl, refl) (λ ts u q. q.0)
  ends P (close c ∷ rest) v f u = ends P rest (g.finish c v) f u
  ends P (want x ∷ rest) v f u = u

  at_end : (limit : ℕ) (pre : List g.Token) (stack : Stack g) (v : g.Value) → Stands limit pre stack v → Judged g from limit pre (finished g t stack v)
  at_end limit pre stack v s =
      let c = all stack v in
      ends (Judged g from limit pre) stack v
      (λ w q only.
      let same : w ≡ c.value = only c.tokens c.value c.goes in
      rw append-nil at (text_of g from limit (pre ++ []) w (s.back [] w q) (rw same (omega (arith, c.low, s.low)))))
      (front_of limit pre stack v s.low s.back)

  judge : (limit : ℕ) (ks pre : List g.Token) (stack : Stack g) (v : g.Value) → Stands limit pre stack v → Judged g from limit (pre ++ ks) (read g t limit ks stack v)
  unfolding read
  judge limit [] pre stack v s = rw append-nil (at_end limit pre stack v s)
  judge limit (k ∷ ks) pre stack v s = on (next g t k stack v) refl (goes (turns g t stack) k stack v)
      (λ to e w low. rw append_assoc at (judge limit ks (pre ++ k ∷ []) to.stack to.value (stands_on limit pre stack v k to s e w low)))
    where
      on : (o : Option (State g)) → next g t k stack v ≡ o → WentTo k stack v o
          → ((to : State g) → next g t k stack v ≡ Some to → Went k stack v to → t.least to.stack to.value ≤ limit → Judged g from limit (pre ++ k ∷ ks) (read g t limit ks to.stack to.value))
          → Judged g from limit (pre ++ k ∷ ks) (go_on g t limit (k ∷ ks) (read g t limit ks) o)
      on None e w f = (pre, k, ks, refl, refl, form_judged limit pre stack v k s e)
      on (Some to) e w f =
          let P : Verdict g.Token g.Value → Type 0 = Judged g from limit (pre ++ k ∷ ks) in
          ⊎_elim
          (λ lt. subst P (sym (cond-false _ _ _ (lt-leb (t.least to.stack to.value) limit lt))) (pre, k, ks, refl, refl, deep_judged limit pre stack v k to s e w lt))
          (λ le. subst P (sym (cond-true _ _ _ (le-leb (t.least to.stack to.value) limit le))) (f to e w le))
          (cases_lt limit (t.least to.stack to.value))

  pub judged : (limit : ℕ) (ts : List g.Token) → t.least (at_start g from) from.empty ≤ limit → Judged g from limit ts (read g t limit ts (at_start g from) from.empty)
  judged limit ts low = judge limit ts [] (at_start g from) from.empty (record { low = low; back = λ ks w q. q; reaches = λ h le ks. refl })
