-- Items gone over in search of a key that stands already.
use Rattle.std.proofs.Common.{◌≡◌, ℕ, ◌+◌, ◌<◌, false, ◌||◌, List, [], ◌∷◌, length, drop, get_or, None, refl, sym, ap, ◌∙◌}
use Rattle.ytt_laws.proofs.Lists.{dropped}
use Rattle.ytt_base.specs.Trees.{Scalar, has_key, same_key}
use Rattle.yaml_noted.specs.declared.noted.NotedItem.{NotedItem}
use Rattle.yaml_noted.specs.View.{content_of, items_of, note_of}
use Rattle.yaml_noted.proofs.Views.{noted_of-item}
use Rattle.yaml_spec.specs.Noted.{Content, Items, item, Note, key_of, or_else, twice, twice_among}
use Rattle.yaml_keys.specs.declared.seen.Seen.{Seen}
use Rattle.yaml_keys.specs.Seen.{is_seen}

-- the items that are left give what all give, beside the keys that were seen
pub record IsPassed (seen : Seen) (left all : Items) : Type 0 where
  pub keys : List Scalar
  pub same : (k : Scalar) → is_seen k seen ≡ has_key k keys
  pub gives : twice_among keys left ≡ twice_among [] all

pub first_item : (items : List NotedItem) (j : ℕ) (i : NotedItem) → j < length items → i ≡ get_or items j i → items_of (drop j items) ≡ item (note_of i) (content_of i.content) (items_of (drop (j + 1) items))
first_item items j i lt is = ap items_of (dropped items j i lt is) ∙ ap (λ x. item x.0 x.1 (items_of (drop (j + 1) items))) (noted_of-item i)

among_new : (n : Note) (c : Content) (is : Items) (ks : List Scalar) → has_key (key_of n) ks ≡ false → twice_among ks (item n c is) ≡ or_else (twice c) (twice_among (key_of n ∷ ks) is)
among_new n c is ks e = rw (e, twice_among) refl

pub among_next : (seen now : Seen) (n : Note) (c : Content) (is all : Items) → IsPassed seen (item n c is) all → is_seen (key_of n) seen ≡ false → twice c ≡ None
    → ((k : Scalar) → is_seen k now ≡ (same_key k (key_of n) || is_seen k seen)) → IsPassed now is all
among_next seen now n c is all p e f h = record {
  keys = key_of n ∷ p.keys;
  same = λ k. h k ∙ ap (λ b. same_key k (key_of n) || b) (p.same k);
  gives = sym (among_new n c is p.keys (sym (p.same (key_of n)) ∙ e) ∙ ap (λ o. or_else o (twice_among (key_of n ∷ p.keys) is)) f) ∙ p.gives;
}
