-- The parts of slices, and what they come to, of the code.
use Rattle.std.specs.Prelude.{◌≡◌, ◌+◌, ◌<◌, ◌≤◌, ◌+ℤ◌, ◌*ℤ◌, ◌<ℤ◌, ◌≤ℤ◌}
use Rattle.star_steps.specs.Names.{ℕ, suc, ℤ, pos, true, false, Option, Some, None, List, length, drop, take, Place, Stop, State, Computation, bad, fail, give, or_fail, paid_by, ◌>>=◌, text_cost, as_int, if_one, as_scalar, cut_text, is_whole, missing, other_key, place_among, value_in}
use Rattle.ytt_base.specs.declared.fault.FaultKind.TheVariants as kind
use Rattle.ytt_base.specs.declared.fault.Stop.TheVariants as stop
use Rattle.value_spec.specs.Values as plain
use Rattle.index_spec.specs.Slices as slices
use Rattle.star_values.specs.declared.value.Cut.{Cut}
use Rattle.star_index.specs.declared.places.Places.{Places}

abbrev pub cut_in : (held : List plain.Value) → Cut → slices.Cut
cut_in held c = record { from = value_in held c.from; to = value_in held c.to; step = value_in held c.step }

abbrev pub places_in : Places → slices.Places
places_in q = record { first = q.first; end = q.end; step = q.step }

-- the place after so many steps
abbrev pub place_at : slices.Places → ℕ → ℤ
place_at q i = q.first +ℤ (pos i *ℤ q.step)

-- one of so many places
pub record IsPlace (count : ℕ) (place : ℤ) : Type 0 where
  pub low : pos 0 ≤ℤ place
  pub high : place <ℤ pos count

-- the places stand among so many, and are no more
pub record AreAmong (count : ℕ) (q : slices.Places) : Type 0 where
  pub each : (i : ℕ) → i < slices.place_count q → IsPlace count (place_at q i)
  pub few : slices.place_count q ≤ count

-- the members of a slice, for the steps that it takes
abbrev pub members_paid : Place → List plain.Value → slices.Cut → Computation (Unit {0}) (List plain.Value)
members_paid p vs c = paid_by (length vs + slices.place_count (slices.places_of (length vs) c)) p (give (slices.members_cut vs (slices.places_of (length vs) c)))

-- the bytes of a slice, for the steps that it takes
abbrev pub bytes_paid : Place → List ℕ → slices.Cut → Computation (Unit {0}) (List ℕ)
bytes_paid p t c = paid_by (text_cost (length t + slices.place_count (slices.places_of (length t) c))) p (slices.bytes_cut p t (slices.places_of (length t) c))

-- the bytes of the character at a place
abbrev pub character : Place → List ℕ → plain.Value → Computation (Unit {0}) (List ℕ)
character p t i = if_one (as_int i) (λ z. or_fail kind.IndexRange p (place_among (length t) z) >>= λ i. cut_text p t i (suc i)) (fail kind.ValueKind p)

-- the whole characters from one place to another, or nothing where they aren't whole
abbrev pub WholeCut : (text : List ℕ) → (from to : ℕ) → Option (List ℕ) → Type 0
WholeCut t a b (Some c) = (is_whole t a b ≡ true) × (c ≡ drop a (take b t))
WholeCut t a b None = is_whole t a b ≡ false

-- a key that no member of a fragment has
abbrev pub absent : Place → plain.Value → Computation (Unit {0}) plain.Value
absent p k = if_one (as_scalar k) (λ x. missing p k) (other_key p k)

-- a call that refuses so does what the computation does; want of memory says nothing
abbrev pub Refuses : Stop → Computation (Unit {0}) plain.Value → Type 0
Refuses (stop.Fault f) m = (s : State (Unit {0})) → m s ≡ bad f s
Refuses stop.Memory m = Unit {0}
