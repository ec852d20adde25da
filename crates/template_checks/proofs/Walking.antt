-- What is kept while the pass walks over the rows.
use Rattle.std.proofs.Common.{◌≡◌, ℕ, suc, Bool, true, false, List, [], ◌∷◌, ◌++◌, Option, Some, None, refl, ap, ◌∙◌, sym, append_assoc}
use Rattle.std.specs.Prelude.{◌||◌, ◌==◌, nat_lt, if◌then◌else◌}
use Rattle.std.specs.List.{list_any}
use Rattle.ytt_base.specs.declared.fault.Fault.{Fault}
use Rattle.template_spec.specs.Misplaced.{Returned, Sound, and_sound, earliest, line_of, option_list, return_faults}
use Rattle.template_spec.specs.OpenBlocks.{first_of}
use Rattle.template_pass.specs.Levels.{Open, behind, fault_by_levels, holder_at, last_open, left_open, next_level, note_faults, returned_at, row_fault, sound_from}
use Rattle.template_pass.specs.Rows.{Row}
use Rattle.template_checks.specs.Walk.{IsWalked, bare_all, bare_row, earlier, flag, flagged_faults, mark_level, mark_levels}
use Rattle.template_checks.proofs.Bare.{behind_bare, holder_bare, mark_level_bare, returned_bare, row_bare}
use Rattle.template_checks.proofs.Earliest.{earliest_append, returns_flagged}

-- before these rows, with these blocks open in the pass
pub record IsWalking (file : ℕ) (all rest : List Row) (n : ℕ) (bs : List Open) (flags : List Bool) (returned : List Returned) (levels : List ℕ) : Type 0 where
  pub blocks : List Open
  pub holders : List ℕ
  pub bared : bare_all blocks ≡ bs
  pub flagged : (k : ℕ) → flag flags k ≡ list_any (λ h. h == k) holders
  pub sound : sound_from file [] 0 all ≡ and_sound holders returned (sound_from file blocks n rest)
  pub marked : mark_levels [] 0 all ≡ levels ++ mark_levels blocks n rest
  pub last : last_open [] 0 all ≡ last_open blocks n rest

nothing_before : (s : Sound) → s ≡ and_sound [] [] s
nothing_before s = refl

pub begins_walk : (file : ℕ) (all : List Row) → IsWalking file all all 0 [] [] [] []
begins_walk file all = record { blocks = []; holders = []; bared = refl; flagged = λ k. refl; sound = nothing_before (sound_from file [] 0 all); marked = refl; last = refl }

-- ---- one row

or_false : (a : Bool) → a ≡ (a || false)
or_false true = refl
or_false false = refl

or_swap : (a b c : Bool) → (a || (b || c)) ≡ (b || (a || c))
or_swap true true c = refl
or_swap true false c = refl
or_swap false b c = refl

any_append : (k : ℕ) (xs ys : List ℕ) → list_any (λ h. h == k) (xs ++ ys) ≡ (list_any (λ h. h == k) ys || list_any (λ h. h == k) xs)
any_append k [] ys = or_false (list_any (λ h. h == k) ys)
any_append k (x ∷ xs) ys = rw (any_append k xs ys) (or_swap (x == k) (list_any (λ h. h == k) ys) (list_any (λ h. h == k) xs))

sound_goes_on : (file : ℕ) (bs : List Open) (n : ℕ) (r : Row) (rest : List Row) → row_fault file bs (next_level rest) r ≡ None
    → sound_from file bs n (r ∷ rest) ≡ and_sound (holder_at bs r) (returned_at bs r) (sound_from file (behind bs (next_level rest) n r) (suc n) rest)
sound_goes_on file bs n r rest e = rw (e, sound_from) refl

sound_stops : (file : ℕ) (bs : List Open) (n : ℕ) (r : Row) (rest : List Row) (f : Fault) → row_fault file bs (next_level rest) r ≡ Some f
    → sound_from file bs n (r ∷ rest) ≡ record { holders = []; returned = returned_at bs r; stop = f ∷ [] }
sound_stops file bs n r rest f e = rw (e, sound_from) refl

both_before : (hs gs : List ℕ) (rs qs : List Returned) (s : Sound) → and_sound hs rs (and_sound gs qs s) ≡ and_sound (hs ++ gs) (rs ++ qs) s
both_before hs gs rs qs s = simp append_assoc

pub walks_on : (file : ℕ) (all rest : List Row) (r : Row) (n : ℕ) (bs bs2 : List Open) (flags flags2 : List Bool) (returned returned2 : List Returned) (levels levels2 : List ℕ)
    → IsWalking file all (r ∷ rest) n bs flags returned levels → row_fault file bs (next_level rest) r ≡ None
    → bs2 ≡ behind bs (next_level rest) n (bare_row r) → returned2 ≡ returned ++ returned_at bs r
    → ((k : ℕ) → flag flags2 k ≡ (list_any (λ h. h == k) (holder_at bs r) || flag flags k))
    → levels2 ≡ levels ++ mark_level bs (next_level rest) r ∷ []
    → IsWalking file all rest (suc n) bs2 flags2 returned2 levels2
walks_on file all rest r n bs bs2 flags flags2 returned returned2 levels levels2 w ok stepped returns held marks =
    let next = next_level rest in
    let real = w.blocks in
    let sound_ok : row_fault file real next r ≡ None = sym (row_bare file real next r) ∙ ap (λ (cs : List Open). row_fault file cs next r) w.bared ∙ ok in
    let held_as : holder_at bs r ≡ holder_at real r = ap (λ (cs : List Open). holder_at cs r) (sym w.bared) ∙ holder_bare real r in
    let returned_as : returned2 ≡ returned ++ returned_at real r = returns ∙ ap (λ (cs : List Open). returned ++ returned_at cs r) (sym w.bared) ∙ ap (λ (rs : List Returned). returned ++ rs) (returned_bare real r) in
    let marked_as : levels2 ≡ levels ++ mark_level real next r ∷ [] = marks ∙ ap (λ (cs : List Open). levels ++ mark_level cs next r ∷ []) (sym w.bared) ∙ ap (λ (d : ℕ). levels ++ d ∷ []) (mark_level_bare real next r) in
    record {
      blocks = behind real next n r;
      holders = w.holders ++ holder_at real r;
      bared = sym (behind_bare real next n r) ∙ ap (λ (cs : List Open). behind cs next n (bare_row r)) w.bared ∙ sym stepped;
      flagged = λ k. held k ∙ ap (λ (hs : List ℕ). list_any (λ h. h == k) hs || flag flags k) held_as ∙ ap (λ (b : Bool). list_any (λ h. h == k) (holder_at real r) || b) (w.flagged k) ∙ sym (any_append k w.holders (holder_at real r));
      sound =
          w.sound ∙ ap (and_sound w.holders returned) (sound_goes_on file real n r rest sound_ok)
          ∙ both_before w.holders (holder_at real r) returned (returned_at real r) (sound_from file (behind real next n r) (suc n) rest)
          ∙ ap (λ (rs : List Returned). and_sound (w.holders ++ holder_at real r) rs (sound_from file (behind real next n r) (suc n) rest)) (sym returned_as);
      marked = w.marked ∙ sym (append_assoc levels (mark_level real next r ∷ []) (mark_levels (behind real next n r) (suc n) rest)) ∙ ap (λ (ds : List ℕ). ds ++ mark_levels (behind real next n r) (suc n) rest) (sym marked_as);
      last = w.last;
    }

-- ---- the end

append_nil : {A : Type 0} (xs : List A) → xs ++ [] ≡ xs
append_nil [] = refl
append_nil (x ∷ xs) = ap (λ ys. x ∷ ys) (append_nil xs)

not_none : (f : Fault) → Some f ≡ None → ⊥
not_none f e = cc

pub walk_stops : (file : ℕ) (all rest : List Row) (r : Row) (n : ℕ) (bs : List Open) (flags : List Bool) (returned returned2 : List Returned) (levels : List ℕ) (f : Fault)
    → IsWalking file all (r ∷ rest) n bs flags returned levels → row_fault file bs (next_level rest) r ≡ Some f → returned2 ≡ returned ++ returned_at bs r
    → IsWalked file all flags returned2 (Some f) levels None
walk_stops file all rest r n bs flags returned returned2 levels f w fault returns =
    let next = next_level rest in
    let real = w.blocks in
    let real_fault : row_fault file real next r ≡ Some f = sym (row_bare file real next r) ∙ ap (λ (cs : List Open). row_fault file cs next r) w.bared ∙ fault in
    let returned_as : returned2 ≡ returned ++ returned_at real r = returns ∙ ap (λ (cs : List Open). returned ++ returned_at cs r) (sym w.bared) ∙ ap (λ (rs : List Returned). returned ++ rs) (returned_bare real r) in
    let sound_as : sound_from file [] 0 all ≡ and_sound w.holders returned (record { holders = []; returned = returned_at real r; stop = f ∷ [] })
    = w.sound ∙ ap (and_sound w.holders returned) (sound_stops file real n r rest f real_fault) in
    record {
      flagged = λ k. w.flagged k ∙ ap (λ (hs : List ℕ). list_any (λ h. h == k) hs) (sym (append_nil w.holders)) ∙ ap (λ (s : Sound). list_any (λ h. h == k) s.holders) (sym sound_as);
      returns = returned_as ∙ ap (λ (s : Sound). s.returned) (sym sound_as);
      stops = ap (λ (s : Sound). s.stop) (sym sound_as);
      marked = λ e. absurd (not_none f e);
      last = λ e. absurd (not_none f e);
    }

left_bare : (file : ℕ) (bs : List Open) → left_open file (bare_all bs) ≡ left_open file bs
left_bare file [] = refl
left_bare file (b ∷ bs) = refl

pub walk_ends : (file : ℕ) (all : List Row) (n : ℕ) (bs : List Open) (flags : List Bool) (returned : List Returned) (levels : List ℕ)
    → IsWalking file all [] n bs flags returned levels → IsWalked file all flags returned None levels (left_open file bs)
walk_ends file all n bs flags returned levels w =
    record {
      flagged = λ k. w.flagged k ∙ ap (λ (hs : List ℕ). list_any (λ h. h == k) hs) (sym (append_nil w.holders)) ∙ ap (λ (s : Sound). list_any (λ h. h == k) s.holders) (sym w.sound);
      returns = sym (append_nil returned) ∙ ap (λ (s : Sound). s.returned) (sym w.sound);
      stops = ap (λ (s : Sound). s.stop) (sym w.sound);
      marked = λ e. sym (append_nil levels) ∙ sym w.marked;
      last = λ e. ap (λ (cs : List Open). left_open file cs) (sym w.bared) ∙ left_bare file w.blocks ∙ ap (λ (cs : List Open). left_open file cs) (sym w.last);
    }

-- ---- what was found

stop_alone : (o : Option Fault) → earliest (option_list o) ≡ o
stop_alone None = refl
stop_alone (Some f) = refl

chosen_first : (t : Bool) (f g : Fault) (left last : Option Fault) → first_of (if t then Some g else Some f) last ≡ first_of (if t then Some g else Some f) left
chosen_first true f g left last = refl
chosen_first false f g left last = refl

left_counts : (stop rest left last : Option Fault) → (stop ≡ None → left ≡ last) → first_of (earlier stop rest) last ≡ first_of (earlier stop rest) left
left_counts None rest left last e = ap (λ (o : Option Fault). first_of rest o) (sym (e refl))
left_counts (Some f) None left last e = refl
left_counts (Some f) (Some g) left last e = chosen_first (nat_lt (line_of g) (line_of f)) f g left last

pub fault_found : (file : ℕ) (rs : List Row) (flags : List Bool) (returned : List Returned) (stop : Option Fault) (levels : List ℕ) (left notes : Option Fault)
    → IsWalked file rs flags returned stop levels left → notes ≡ earliest (note_faults file rs)
    → fault_by_levels file rs ≡ first_of (earlier stop (earlier (earliest (flagged_faults flags returned)) notes)) left
unfolding fault_by_levels
fault_found file rs flags returned stop levels left notes w noted =
    let s = sound_from file [] 0 rs in
    let last = left_open file (last_open [] 0 rs) in
    let joined : earliest (s.stop ++ (return_faults s.holders s.returned ++ note_faults file rs)) ≡ earlier (earliest s.stop) (earlier (earliest (return_faults s.holders s.returned)) (earliest (note_faults file rs)))
    = earliest_append s.stop (return_faults s.holders s.returned ++ note_faults file rs) ∙ ap (earlier (earliest s.stop)) (earliest_append (return_faults s.holders s.returned) (note_faults file rs)) in
    let stopped : earliest s.stop ≡ stop = ap earliest (sym w.stops) ∙ stop_alone stop in
    let returning : return_faults s.holders s.returned ≡ flagged_faults flags returned = returns_flagged flags s.holders s.returned w.flagged ∙ ap (flagged_faults flags) (sym w.returns) in
    ap (λ (o : Option Fault). first_of o last) (joined ∙ ap (λ (o : Option Fault). earlier o (earlier (earliest (return_faults s.holders s.returned)) (earliest (note_faults file rs)))) stopped
    ∙ ap (λ (fs : List Fault). earlier stop (earlier (earliest fs) (earliest (note_faults file rs)))) returning ∙ ap (λ (o : Option Fault). earlier stop (earlier (earliest (flagged_faults flags returned)) o)) (sym noted))
    ∙ left_counts stop (earlier (earliest (flagged_faults flags returned)) notes) left last w.last
