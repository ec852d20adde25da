-- What stands at a place, as the store's acts see it.
use Rattle.std.proofs.Common.{◌≡◌, ◌∷◌}
use Rattle.object_arena.proofs.Names.{ℕ, Bool, List, [], length, get_or, Option, Some, slice_get, refl, sym, ap, ◌∙◌, length-map, get_or_from_slice_get, slice_get-map, option_map, lookup, IsKey, none_value, tuple_value, values_in, values_from, Store, found, index_range, key_missing, pairs_of_contents, pairs_in, value_of_key, dict_get, DecidesOne, pairs_of, Ref, Value, Contents, Object, contents_in, object_in, held_at, object_at, OneKey, OwnsContents, View, members_in, value_of, values_of, some_held, identified, value_seen, is_object, choose, sort_at, tuple_members, object_count, length_of}
use Rattle.value_spec.specs.Values as plain
use Rattle.star_values.specs.declared.value.Sort.TheVariants as sort
use Rattle.star_values.specs.declared.value.Value.TheVariants as value
use Rattle.star_values.specs.declared.lent.Lent.TheVariants as lent
use Rattle.star_values.specs.declared.object.Contents.TheVariants as contents
use Rattle.star_values.specs.Objects.{pairs_in as pairs_seen}

-- ---- tuples

members_back : (vs : List plain.Value) → values_in (values_from vs) ≡ vs
members_back [] = refl
members_back (v ∷ vs) = ap (λ l. v ∷ l) (members_back vs)

-- the members of a tuple that is held
pub tuple_seen : (a : View) (r : Ref) (vs : List Value) → held_at a r.at ≡ Some sort.Tuple → value_of a (value.Tuple r) ≡ tuple_value (values_from (values_of a vs)) → tuple_members (slice_get a.held r.at) ≡ values_of a vs
tuple_seen a r vs h e =
    let x = some_held (slice_get a.held r.at) sort.Tuple h in
    let members : members_in (get_or a.held r.at none_value) ≡ values_from (values_of a vs) = ap members_in e in
    ap tuple_members x.1
    ∙ ap (λ v. values_in (members_in v)) (sym (get_or_from_slice_get a.held r.at x.0 none_value x.1))
    ∙ ap values_in members
    ∙ members_back (values_of a vs)

-- a member of it
pub tuple_found : (a : View) (r : Ref) (vs : List Value) (i : ℕ) → held_at a r.at ≡ Some sort.Tuple → value_of a (value.Tuple r) ≡ tuple_value (values_from (values_of a vs)) → found {S = Store} index_range (slice_get (tuple_members (slice_get a.held r.at)) i) a.store ≡ found {S = Store} index_range (option_map (value_of a) (slice_get vs i)) a.store
tuple_found a r vs i h e =
    ap (λ l. found {S = Store} index_range (slice_get l i) a.store) (tuple_seen a r vs h e)
    ∙ ap (λ o. found {S = Store} index_range o a.store) (slice_get-map (value_of a) vs i)

-- and how many there are
pub tuple_length : (a : View) (r : Ref) (vs : List Value) → r.sort ≡ sort.Tuple → sort_at a r ≡ Some r.sort → value_of a (value.Tuple r) ≡ tuple_value (values_from (values_of a vs)) → length vs ≡ length_of a r
tuple_length a r vs k o e =
    let h : held_at a r.at ≡ Some sort.Tuple = ap (λ k. choose (is_object k) (object_at a r.at) (held_at a r.at)) (sym k) ∙ o ∙ ap Some k in
    sym (length-map vs (value_of a))
    ∙ ap length (sym (tuple_seen a r vs h e))
    ∙ ap (λ k. choose (is_object k) (object_count (slice_get a.store r.at)) (length (tuple_members (slice_get a.held r.at)))) (sym k)

-- ---- dicts

pairs_same : (held : List plain.Value) (c : Contents) → pairs_of_contents (contents_in held c) ≡ pairs_seen held (pairs_of c)
pairs_same held (contents.List vs) = refl
pairs_same held (contents.Dict m) = refl
pairs_same held (contents.Lent (lent.List vs) more) = refl
pairs_same held (contents.Lent (lent.Dict m) more) = refl
pairs_same held (contents.Box v) = refl
pairs_same held (contents.Func f) = refl

-- the value of a key, where what the pairs have under it is known
pub dict_seen : (test : Value → Value → Bool) → DecidesOne test → (a : View) (r : ℕ) (o : Object) (k : Value) (under : Option Value) → OneKey a k → IsKey (value_of a k) → slice_get a.store r ≡ Some (object_in a.held o) → OwnsContents a o.contents → under ≡ lookup (test k) (pairs_of o.contents) →
    dict_get r (value_of a k) a.store ≡ found key_missing (option_map (value_of a) under) a.store
dict_seen test decides a r o k under one key here owns e =
    ap (λ x. found key_missing (value_of_key (value_of a k) (pairs_in x)) a.store) here
    ∙ ap (λ ps. found key_missing (value_of_key (value_of a k) ps) a.store) (pairs_same a.held o.contents)
    ∙ ap (λ v. found key_missing v a.store) (sym (value_seen test a.held k (pairs_of o.contents) decides (identified a o.contents k one key owns)))
    ∙ ap (λ v. found key_missing (option_map (value_of a) v) a.store) (sym e)
