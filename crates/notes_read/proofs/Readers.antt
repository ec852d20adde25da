-- Some reader reads code as the grammar says, and any two read each text as the same.
use Rattle.std.proofs.Common.{◌≡◌, ℕ, List, Ok, Err, refl, sym, ◌∙◌, inl, inr, ⊎_elim}
use Rattle.ytt_base.specs.declared.fault.Place.{Place}
use Rattle.ytt_base.specs.Outcomes.{Outcome, fault_at, place_at}
use Rattle.star_tree.specs.Whole.{expr_of, exprs_of, header_of, instructions_of}
use Rattle.star_grammar.specs.declared.part.Part.{Part}
use Rattle.star_grammar.specs.declared.start.Start.{Start}
use Rattle.star_grammar.specs.declared.start.Start.TheVariants as start
use Rattle.star_grammar.specs.declared.token.Origin.{Origin}
use Rattle.star_grammar.specs.declared.token.Origin.TheVariants as origin
use Rattle.star_grammar.specs.CodeReaders.{tokens_from, tokens_at, leaves_open, ReadsFrom, refusal_fault, ACodeReaderExists, CodeReadersAgree}
use Rattle.star_grammar.specs.Parts.{top, expr_in, exprs_in, code_in}
use Rattle.star_grammar.specs.Reading.{header_in}
use Rattle.star_grammar.specs.Tokens.{Tokens, at_line}
use Rattle.star_token.proofs.Cut.{ended}
use Rattle.star_read.proofs.Deciding.{each_is_read}
use Rattle.notes_read.proofs.Reading.{one_reading}

module _ {A : Type 0} (k : Origin) (s : Start) (view : Part → A) (place : Place) (text : List ℕ) where
  abbrev Answer : Type 0
  Answer = (o : Outcome A) × ReadsFrom k s view place text o

  cut_answer : (o : Tokens) → tokens_from k place text ≡ o → Answer
  cut_answer (Err r) cut = (Err (fault_at r.fault (place_at place.file r.line)), inl (r, cut, refl))
  cut_answer (Ok ts) cut = ⊎_elim
      (λ q. (Ok (view (top q.0)), (ts, q.0, cut, q.1, refl)))
      (λ q. (Err (refusal_fault place.file q.0), inr (ts, q.0, cut, q.1, refl)))
      (each_is_read s ts (ended text 0 k (at_line place.line) ts cut))

  answer : Answer
  answer = cut_answer (tokens_from k place text) refl

pub a_code_reader_exists : ACodeReaderExists
a_code_reader_exists = (
  record {
    expr = λ place text. (answer origin.Comment start.Expr (λ p. expr_of place.file (expr_in p)) place text).0;
    args = λ place text. (answer origin.Comment start.Args (λ p. exprs_of place.file (exprs_in p)) place text).0;
    simple = λ place text. (answer origin.Comment start.Line (λ p. instructions_of place.file (code_in p)) place text).0;
    header = λ place text. (answer origin.Comment start.Header (λ p. header_of place.file (header_in (code_in p))) place text).0;
    is_open = λ place text. leaves_open (tokens_at place text);
    file = λ n text. (answer origin.File start.File (λ p. instructions_of n (code_in p)) (place_at n 1) text).0;
  },
  record {
    expr = λ place text. (answer origin.Comment start.Expr (λ p. expr_of place.file (expr_in p)) place text).1;
    args = λ place text. (answer origin.Comment start.Args (λ p. exprs_of place.file (exprs_in p)) place text).1;
    simple = λ place text. (answer origin.Comment start.Line (λ p. instructions_of place.file (code_in p)) place text).1;
    header = λ place text. (answer origin.Comment start.Header (λ p. header_of place.file (header_in (code_in p))) place text).1;
    is_open = λ place text. refl;
    file = λ n text. (answer origin.File start.File (λ p. instructions_of n (code_in p)) (place_at n 1) text).1;
  },
)

pub code_readers_agree : CodeReadersAgree
code_readers_agree = record {
  expr = λ r s p q place text. one_reading origin.Comment start.Expr (λ k. expr_of place.file (expr_in k)) place text (r.expr place text) (s.expr place text) (p.expr place text) (q.expr place text);
  args = λ r s p q place text. one_reading origin.Comment start.Args (λ k. exprs_of place.file (exprs_in k)) place text (r.args place text) (s.args place text) (p.args place text) (q.args place text);
  simple = λ r s p q place text. one_reading origin.Comment start.Line (λ k. instructions_of place.file (code_in k)) place text (r.simple place text) (s.simple place text) (p.simple place text) (q.simple place text);
  header = λ r s p q place text. one_reading origin.Comment start.Header (λ k. header_of place.file (header_in (code_in k))) place text (r.header place text) (s.header place text) (p.header place text) (q.header place text);
  is_open = λ r s p q place text. p.is_open place text ∙ sym (q.is_open place text);
  file = λ r s p q n text. one_reading origin.File start.File (λ k. instructions_of n (code_in k)) (place_at n 1) text (r.file n text) (s.file n text) (p.file n text) (q.file n text);
}
