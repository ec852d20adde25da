-- What stands behind an answer, by what rendering or listing gave.
use Rattle.std.proofs.Common.{◌≡◌, ◌∙◌, ℕ, List, Option, Some, None, Err, IfSome, ap, refl, subst, sym, ◌∷◌, []}
use Rattle.ytt_base.specs.declared.fault.Fault.{Fault}
use Rattle.ytt_base.specs.declared.tree.Tree.{Tree as Held}
use Rattle.ytt_outside.specs.Counts.{Rose}
use Rattle.ytt_outside.specs.Standing.{Standing}
use Rattle.code_spec.specs.CodeReading.{CodeReader}
use Rattle.star_grammar.specs.CodeReaders.{IsCodeReader, MeansCode}
use Rattle.file_spec.specs.Names.{last_part}
use Rattle.file_spec.specs.Reading.{IsPathOfRun}
use Rattle.template_meaning.proofs.Theorem.{files_agree}
use Rattle.template_spec.specs.Compiled.{compiled}
use Rattle.star_spec.specs.Eval.{starlark}
use Rattle.compile_spec.specs.Compiling.{listing_of}
use Rattle.file_listing.specs.Lists.{HasListCause, ListsAt, ListsFound, items_at}
use Rattle.file_units.specs.Reads.{HasCause}
use Rattle.file_units.specs.declared.units.RenderStop.{RenderStop}
use Rattle.file_units.specs.declared.units.RenderStop.TheVariants as stop
use Rattle.render_core.specs.Renders.{Renders}
use Rattle.ytt_spec.specs.Due.{done, due_for, fault}
use Rattle.ytt_spec.specs.Meaning.{Means, a_listing, asks_of, named_in, paths_of, produced}
use Rattle.ytt_spec.specs.Requests.{IsRequest}
use Rattle.ytt_spec.specs.Words.{Command, Compile, Render, compile, render}
use Rattle.ytt_main.specs.Answers.{Answers, AnswersStop, IsMeantDue}
use Rattle.ytt_main.specs.Found.{Found, IsListing}
use Rattle.ytt_main.specs.Seen.{Files}
use Rattle.ytt_main.specs.declared.answer.Answer.{Answer}
use Rattle.ytt_main.specs.declared.answer.Answer.TheVariants as answer

abbrev Tree : Type 0
Tree = List ℕ → Standing

-- ---- why there is nothing for `out`

-- a command means the fault of a stop, where the tree is told
abbrev pub StopMeant : Command → Option Tree → RenderStop → Type 0
StopMeant command tree (stop.Refused f names) = IfSome tree (λ t. Means command t (Err (record { fault = f; names = names })))
StopMeant command tree (stop.ReadFailed path) = Unit {0}
StopMeant command tree stop.Memory = Unit {0}

-- the files' count rose where they failed, at a path that the command asks for, and else stands as it was
abbrev pub StopCaused : Command → Files → RenderStop → Type 0
StopCaused command files (stop.Refused f names) = files.faults_now ≡ files.faults_before
StopCaused command files (stop.ReadFailed path) = Rose files.faults_before files.faults_now × ((r : CodeReader) → IsCodeReader r → IsPathOfRun (paths_of command) (asks_of r command) files.tree path)
StopCaused command files stop.Memory = Unit {0}

fault_due : (command : Command) (tree : Option Tree) (s : RenderStop) (line : List ℕ) → StopMeant command tree s → AnswersStop s (answer.Fault line) → IfSome tree (λ t. IsMeantDue command t (fault line))
fault_due command None s line m a = tt
fault_due command (Some t) (stop.Refused f names) line m a = λ r reads. ap due_for (m r reads) ∙ ap fault (sym a)
fault_due command (Some t) (stop.ReadFailed path) line m a = absurd a
fault_due command (Some t) stop.Memory line m a = absurd a

nothing_due : (command : Command) (tree : Option Tree) → IfSome tree (λ t. Answers (IsMeantDue command t) answer.Memory)
nothing_due command None = tt
nothing_due command (Some t) = tt

read_due : (command : Command) (tree : Option Tree) (line : List ℕ) → IfSome tree (λ t. Answers (IsMeantDue command t) (answer.ReadFailed line))
read_due command None line = tt
read_due command (Some t) line = tt

pub stop_told : (command : Command) (tree : Option Tree) (s : RenderStop) (a : Answer) → StopMeant command tree s → AnswersStop s a → IfSome tree (λ t. Answers (IsMeantDue command t) a)
stop_told command tree s (answer.Fault line) m h = fault_due command tree s line m h
stop_told command tree s (answer.ReadFailed line) m h = read_due command tree line
stop_told command tree s answer.Memory m h = nothing_due command tree
stop_told command tree (stop.Refused f names) (answer.Documents ts) m h = absurd h
stop_told command tree (stop.ReadFailed path) (answer.Documents ts) m h = absurd h
stop_told command tree stop.Memory (answer.Documents ts) m h = absurd h
stop_told command tree (stop.Refused f names) (answer.Listing text) m h = absurd h
stop_told command tree (stop.ReadFailed path) (answer.Listing text) m h = absurd h
stop_told command tree stop.Memory (answer.Listing text) m h = absurd h
stop_told command tree (stop.Refused f names) (answer.Usage line) m h = absurd h
stop_told command tree (stop.ReadFailed path) (answer.Usage line) m h = absurd h
stop_told command tree stop.Memory (answer.Usage line) m h = absurd h

pub stop_found : (words : List (List ℕ)) (command : Command) (files : Files) (s : RenderStop) (a : Answer) → IsRequest words command → StopMeant command files.tree s → StopCaused command files s → AnswersStop s a → Found words files a
stop_found words command files (stop.Refused f names) (answer.Fault line) q m c h = record {
  refusal = record { fault = f; names = names };
  meant = record { command = command; request = q; means = m; none_failed = c };
  line_is = h;
}
stop_found words command files (stop.ReadFailed path) (answer.ReadFailed line) q m c h = record { command = command; request = q; rose = c.0; path = path; is_asked = c.1; line_is = h }
stop_found words command files s answer.Memory q m c h = tt
stop_found words command files (stop.ReadFailed path) (answer.Fault line) q m c h = absurd h
stop_found words command files stop.Memory (answer.Fault line) q m c h = absurd h
stop_found words command files (stop.Refused f names) (answer.ReadFailed line) q m c h = absurd h
stop_found words command files stop.Memory (answer.ReadFailed line) q m c h = absurd h
stop_found words command files (stop.Refused f names) (answer.Documents ts) q m c h = absurd h
stop_found words command files (stop.ReadFailed path) (answer.Documents ts) q m c h = absurd h
stop_found words command files stop.Memory (answer.Documents ts) q m c h = absurd h
stop_found words command files (stop.Refused f names) (answer.Listing text) q m c h = absurd h
stop_found words command files (stop.ReadFailed path) (answer.Listing text) q m c h = absurd h
stop_found words command files stop.Memory (answer.Listing text) q m c h = absurd h
stop_found words command files (stop.Refused f names) (answer.Usage line) q m c h = absurd h
stop_found words command files (stop.ReadFailed path) (answer.Usage line) q m c h = absurd h
stop_found words command files stop.Memory (answer.Usage line) q m c h = absurd h

-- ---- rendering

module _ (asked : Render) (tree : Option Tree) where
  pub render_stop : (s : RenderStop) → IfSome tree (λ t. Renders (Means (render asked) t) (Err s)) → StopMeant (render asked) tree s
  render_stop (stop.Refused f names) h = h
  render_stop (stop.ReadFailed path) h = tt
  render_stop stop.Memory h = tt

  pub render_caused : (files : Files) (s : RenderStop) → HasCause {A = List Held} asked.ignore_unknown asked.paths files.tree files.faults_before files.faults_now (Err s) → StopCaused (render asked) files s
  render_caused files (stop.Refused f names) h = h
  render_caused files (stop.ReadFailed path) h = h
  render_caused files stop.Memory h = tt

-- ---- listing

listing_refused : (asked : Compile) (t : Tree) (f : Fault) → MeansCode (items_at asked.ignore_unknown asked.path t) (Err f) → Means (compile asked) t (Err (record { fault = f; names = last_part asked.path ∷ [] }))
listing_refused asked t f h = λ r reads. ap (λ o. produced (λ t. a_listing (listing_of t)) (named_in (last_part asked.path ∷ []) o)) (h r reads)

module _ (asked : Compile) where
  pub listing_stop : (tree : Option Tree) (s : RenderStop) → ListsFound asked.ignore_unknown asked.path tree (Err s) → StopMeant (compile asked) tree s
  listing_stop None (stop.Refused f names) h = tt
  listing_stop (Some t) (stop.Refused f names) h = subst (λ (ns : List (List ℕ)). Means (compile asked) t (Err (record { fault = f; names = ns }))) (sym h.0) (listing_refused asked t f h.1)
  listing_stop tree (stop.ReadFailed path) h = tt
  listing_stop tree stop.Memory h = tt

  pub listing_caused : (files : Files) (s : RenderStop) → HasListCause asked.ignore_unknown asked.path files.tree files.faults_before files.faults_now (Err s) → StopCaused (compile asked) files s
  listing_caused files (stop.Refused f names) h = h
  listing_caused files (stop.ReadFailed path) h = h
  listing_caused files stop.Memory h = tt

  -- a listing is due, and runs as its items are built
  pub listing_found : (words : List (List ℕ)) (files : Files) (text : List ℕ) → IsRequest words (compile asked) → files.faults_now ≡ files.faults_before → ListsAt asked.ignore_unknown asked.path files.tree text → IsListing words files text
  listing_found words files text q c (t, means, is) = record {
    asked = asked;
    request = q;
    items = t;
    found = means;
    none_failed = c;
    text_is = is.text_is;
    runs = λ host. files_agree starlark host (compiled t) t refl is.words_stand;
  }

  pub listing_told : (tree : Option Tree) (text : List ℕ) → ListsAt asked.ignore_unknown asked.path tree text → IfSome tree (λ t. IsMeantDue (compile asked) t (done text))
  listing_told None text h = tt
  listing_told (Some s) text (t, means, is) = λ r reads. ap (λ o. due_for (produced (λ t. a_listing (listing_of t)) (named_in (last_part asked.path ∷ []) o))) (means r reads) ∙ ap done (sym is.text_is)
