-- Tokens are read or refused, and in one way.
use Rattle.std.proofs.Common.{◌≡◌, List, [], ◌∷◌, ◌++◌, refl, sym, ap, ◌∙◌, subst, inl, inr, ⊎_elim, append_assoc}
use Rattle.std.specs.Prelude.{true, ◌⊎◌}
use Rattle.ll.specs.Grammar.{Parses, Front}
use Rattle.ll.specs.Machine.{Verdict, Whole, Unfinished, Form, Deep}
use Rattle.ll.proofs.Judge.{Judged, one_value}
use Rattle.star_grammar.specs.declared.start.Start.{Start}
use Rattle.star_grammar.specs.declared.token.Token.{Token}
use Rattle.star_grammar.specs.Language.{language, Value}
use Rattle.star_grammar.specs.Machine.{tables}
use Rattle.star_grammar.specs.Reading.{max_height, entry_of, IsRead, IsFormAt, IsDeepAt, Refusal, code_form, too_deep, Refuses}
use Rattle.star_grammar.specs.Standing.{stands, stand_after, at_first}
use Rattle.star_grammar.specs.Language.{kind_of_token}
use Rattle.star_grammar.specs.Tokens.{ends}
use Rattle.star_grammar.specs.declared.part.Part.{Part}
use Rattle.star_grammar.proofs.Checked.{looks, consistent, ended}
use Rattle.star_grammar.proofs.Fills.{risen, completes}
use Rattle.star_read.specs.Answers.{OneTree, EachIsRead, NeverBoth, refusal_at}
use Rattle.star_read.proofs.Answering.{read_all, judge, form_refused, deep_refused, not_unfinished}

pub one_tree : OneTree
one_tree s ts ps qs p q =
    let same : p.0 ≡ q.0 = one_value language tables looks consistent risen completes (entry_of s) (ended s) max_height ts p.0 q.0 p.2 q.2 in
    p.1 ∙ ap (λ (v : Value). v.parts) same ∙ sym q.1

abbrev Answered : Start → List Token → Type 0
Answered s ts = ((ps : List Part) × IsRead s ts ps) ⊎ ((r : Refusal) × Refuses s ts r)

answered : (s : Start) (ts : List Token) → ends ts ≡ true → (o : Verdict Token Value) → read_all s ts ≡ o → Judged language (entry_of s) max_height ts o → Answered s ts
answered s ts e (Whole w) is j = inl (w.parts, (w, refl, j))
answered s ts e Unfinished is j = absurd (not_unfinished s ts e is)
answered s ts e (Form rest) is j = inr (refusal_at (stands s at_first j.0) j.1, form_refused s ts j.0 j.1 j.2 j.4 j.5)
answered s ts e (Deep rest) is j = inr (too_deep (stand_after s (stands s at_first j.0) (kind_of_token j.1.kind) j.1.line).line, deep_refused s ts j.0 j.1 j.2 j.4 j.5)

pub each_is_read : EachIsRead
each_is_read s ts e = answered s ts e (read_all s ts) refl (judge s ts)

-- what is read begins with each of its fronts
front_of : (s : Start) (ts before : List Token) (k : Token) (after : List Token) (w : Value) → ts ≡ before ++ k ∷ after → Parses language (entry_of s) max_height ts w → Front language (entry_of s) max_height (before ++ k ∷ [])
front_of s ts before k after w same p = record {
  rest = after;
  value = w;
  text = subst (λ l. Parses language (entry_of s) max_height l w) (same ∙ sym (append_assoc before (k ∷ []) after)) p;
}

no_form : (s : Start) (ts before : List Token) (k : Token) (after : List Token) (w : Value) → ts ≡ before ++ k ∷ after → Parses language (entry_of s) max_height ts w → IsFormAt s before k → ⊥
no_form s ts before k after w same p f = f.none max_height (front_of s ts before k after w same p)

no_deep : (s : Start) (ts before : List Token) (k : Token) (after : List Token) (w : Value) → ts ≡ before ++ k ∷ after → Parses language (entry_of s) max_height ts w → IsDeepAt s before k → ⊥
no_deep s ts before k after w same p d = d.not_low (front_of s ts before k after w same p)

pub never_both : NeverBoth
never_both s ts ps (code_form l) p r = no_form s ts r.0 r.1 r.2 p.0 r.3 p.2 r.4.2
never_both s ts ps (too_deep l) p r = ⊎_elim (λ q. no_form s ts r.0 r.1 r.2 p.0 r.3 p.2 q.2) (λ q. no_deep s ts r.0 r.1 r.2 p.0 r.3 p.2 q.1) r.4
