-- What is told of a template, pass by pass: its text templates, its names, and then what of it isn't built.
use Rattle.std.proofs.Common.{◌≡◌, ℕ, false, List, [], Option, Some, None, Ok, Err, refl, sym, ap, ◌∙◌}
use Rattle.std.proofs.lemmas.Result.{IfOk-at_ok}
use Rattle.ytt_base.specs.Outcomes.{Outcome, ◌>>=◌, and_then}
use Rattle.ytt_base.specs.declared.fault.FaultKind.TheVariants as kind
use Rattle.ytt_base.specs.declared.fault.Place.{Place}
use Rattle.ytt_base.specs.declared.fault.Stop.{Stop}
use Rattle.ytt_base.specs.declared.fault.Stop.TheVariants as stop
use Rattle.code_spec.specs.CodeReading.{CodeReader}
use Rattle.code_spec.specs.Names.{language_names}
use Rattle.code_spec.specs.Program.{Instruction}
use Rattle.star_grammar.specs.CodeReaders.{ACodeReaderExists, CodeReadersAgree, IsCodeReader, MeansCode}
use Rattle.star_resolve.specs.Variables.{IfFault, program_fault}
use Rattle.star_spec.specs.Eval.{starlark}
use Rattle.star_tree.specs.declared.code.Stmt.{Stmt}
use Rattle.star_tree.specs.Whole.{instructions_of}
use Rattle.template_meaning.proofs.Theorem.{agrees}
use Rattle.template_spec.specs.Compiled.{items_code}
use Rattle.template_spec.specs.ControlWords.{WordsStand, free}
use Rattle.template_spec.specs.Numbered.{numbered}
use Rattle.template_spec.specs.Template.{Items}
use Rattle.template_spec.proofs.NumbersKeep.{numbered_stands}
use Rattle.text_template_spec.specs.TextTemplates.{texted_items, with_texts}
use Rattle.text_template_spec.proofs.TextsKeepWords.{words_kept}
use Rattle.passes_spec.specs.Passes.{all_built, bound, texts_passed, unless_unbuilt}
use Rattle.passes_spec.specs.Unbuilt.{first_unbuilt, unbuilt_items}
use Rattle.passes_spec.proofs.TextsUnbuilt.{items_unbuilt}
use Rattle.template_program.specs.Emits.{EmitsCode}
use Rattle.template_program.specs.Programs.{Compiles, HasCode, HasNames, IsBound, IsCode, IsProgramOf}
use Rattle.template_program.proofs.Emitting.{emits_all}
use Rattle.template_program.proofs.Resolving.{all_bound, bound_refuses}

-- any two readers are one
pub one_reader : CodeReadersAgree → (r s : CodeReader) → IsCodeReader r → IsCodeReader s → r ≡ s
one_reader agree r s p q = λ i. record {
  expr = λ place text. agree.expr r s p q place text i;
  args = λ place text. agree.args r s p q place text i;
  simple = λ place text. agree.simple r s p q place text i;
  header = λ place text. agree.header r s p q place text i;
  is_open = λ place text. agree.is_open r s p q place text i;
  file = λ n text. agree.file r s p q n text i;
}

-- ---- text templates

module _ (file n : ℕ) (old new : List Stmt) (t : Items) where
  -- what each reader gives is put behind nothing, and is one program
  pub one_program : ACodeReaderExists → CodeReadersAgree → old ≡ [] → EmitsCode file old new 0 n items_code (Ok tt) (λ r. texted_items r false t) → IsCode t (instructions_of file new)
  unfolding with_texts
  one_program (r, reads) agree none h =
      let given = h r reads in
      record {
        whole = given.0;
        texts = λ s also. ap (λ q. texted_items q false t) (one_reader agree s r also reads) ∙ given.1;
        code = emits_all file n old new given.0 none given.2;
      }

  pub texts_refuse : (s : Stop) → EmitsCode file old new 0 n items_code (Err s) (λ r. texted_items r false t) → HasCode t (Err s)
  unfolding with_texts
  texts_refuse (stop.Fault f) h = h
  texts_refuse stop.Memory h = tt

-- ---- names

module _ (t : Items) where
  -- the faults of text templates come first
  pub texts_first : (s : Stop) → HasCode t (Err s) → HasNames t (Err s)
  texts_first (stop.Fault f) h = λ r reads. ap (and_then bound) (h r reads)
  texts_first stop.Memory h = tt

  module _ (is : List Instruction) (code : IsCode t is) (names : List (List ℕ)) (all : names ≡ language_names) where
    pub one_unknown : (s : Stop) → IfFault s (λ f. program_fault names is ≡ Some f) → HasNames t (Err s)
    one_unknown (stop.Fault f) e = λ r reads. ap (and_then bound) (code.texts r reads) ∙ bound_refuses code.whole is names f code.code all e
    one_unknown stop.Memory e = tt

    pub all_known : program_fault names is ≡ None → IsBound t is
    all_known e = record { code = code; known = all_bound code.whole is names code.code all e }

-- ---- what isn't built

in_turn : (o : Outcome Items) → (o >>= (λ u. bound u >>= all_built)) ≡ and_then all_built (and_then bound o)
in_turn (Ok u) = refl
in_turn (Err e) = refl

module _ (t : Items) where
  pub names_first : (s : Stop) → HasNames t (Err s) → Compiles t (Err s)
  names_first (stop.Fault f) h = λ r reads. in_turn (with_texts r t) ∙ ap (and_then all_built) (h r reads)
  names_first stop.Memory h = tt

  -- text templates change nothing of it
  same_places : (r : CodeReader) (u : Items) → with_texts r t ≡ Ok u → unbuilt_items u ≡ unbuilt_items t
  unfolding with_texts
  same_places r u e = IfOk-at_ok (λ v. unbuilt_items v ≡ unbuilt_items t) e (items_unbuilt r false t)

  same_words : (r : CodeReader) (u : Items) → with_texts r t ≡ Ok u → WordsStand free t → WordsStand free u
  unfolding with_texts
  same_words r u e stand = words_kept r false free t u e stand

  module _ (is : List Instruction) (h : IsBound t is) (o : Option Place) (first : o ≡ first_unbuilt (unbuilt_items t)) where
    told : (r : CodeReader) → IsCodeReader r → all_built h.code.whole ≡ unless_unbuilt h.code.whole o
    told r reads = ap (λ ps. unless_unbuilt h.code.whole (first_unbuilt ps)) (same_places r h.code.whole (h.code.texts r reads)) ∙ ap (unless_unbuilt h.code.whole) (sym first)

    pub built_whole : ACodeReaderExists → o ≡ None → IsProgramOf t is
    built_whole (r, reads) none = record {
      code = h.code;
      passes = ap (and_then all_built) h.known ∙ told r reads ∙ ap (unless_unbuilt h.code.whole) none;
      words = same_words r h.code.whole (h.code.texts r reads);
      runs = λ host stand. agrees starlark host is (numbered h.code.whole) h.code.code (numbered_stands h.code.whole stand);
    }

    pub one_unbuilt : (p : Place) (detail : List ℕ) → o ≡ Some p → detail ≡ [] → MeansCode (λ r. texts_passed r t) (Err (record { kind = kind.NotBuilt; place = Some p; detail = detail }))
    one_unbuilt p detail some none = λ r reads.
        in_turn (with_texts r t) ∙ ap (λ q. and_then all_built (and_then bound q)) (h.code.texts r reads) ∙ ap (and_then all_built) h.known
        ∙ told r reads ∙ ap (unless_unbuilt h.code.whole) some ∙ ap (λ d. Err (record { kind = kind.NotBuilt; place = Some p; detail = d })) (sym none)
