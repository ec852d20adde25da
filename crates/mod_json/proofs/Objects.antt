-- Entries that are put into an object, the last one first.
use Rattle.std.proofs.Common.{◌≡◌, List, [], ◌∷◌, ◌++◌, string_cmp, sym, ap, ◌∙◌}
use Rattle.std.specs.BTreeMap.{insert_entry}
use Rattle.serde_json.specs.Data.{Members, put}
use Rattle.serde_json.specs.View.{members_view}
use Rattle.serde_json.proofs.Views.{members_view-insert_entry}
use Rattle.mod_json.specs.Walk.{Entry, put_each}
use Rattle.mod_json.proofs.InTurn.{entries-last}

-- the last of those that are left goes in
pub put_next : (all : Members) (before left : List Entry) (e : Entry) (old new : List Entry) → put_each before (members_view old) ≡ all → before ≡ left ++ e ∷ [] → new ≡ insert_entry string_cmp old e.0 e.1 → put_each left (members_view new) ≡ all
put_next all before left e old new h is put =
    ap (λ m. put_each left m) (ap members_view put ∙ members_view-insert_entry old e.0 e.1)
    ∙ entries-last left e (members_view old)
    ∙ ap (λ l. put_each l (members_view old)) (sym is) ∙ h

-- none is left
pub put_done : (all : Members) (left old : List Entry) → put_each left (members_view old) ≡ all → left ≡ [] → members_view old ≡ all
put_done all left old h e = sym (ap (λ l. put_each l (members_view old)) e) ∙ h
