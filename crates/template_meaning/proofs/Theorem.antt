-- A compiled template runs as it is built, its functions, its file and the files that it loads too.
use Rattle.std.proofs.Common.{◌≡◌, ℕ, zero, suc, List, [], ◌∷◌, Option, Some, None, length, refl, ap, ◌∙◌}
use Rattle.ytt_base.specs.declared.fault.Place.{Place}
use Rattle.code_spec.specs.Program.{Instruction}
use Rattle.value_spec.specs.Values.{Value, Arguments, Children, no_children, Env}
use Rattle.value_spec.specs.Outcomes.{State, Ending, done, asks, bad, then_do, ◌>>=◌, give, or_ill_formed}
use Rattle.star_spec.specs.Language.{Call, Language}
use Rattle.star_spec.specs.Names.{with_boxes}
use Rattle.star_spec.specs.Flow.{Flow, on, out}
use Rattle.code_spec.specs.Blocks.{no_ops, blocks}
use Rattle.star_spec.specs.Calls.{Host, call_with_natives, function_call, Code, of_lambda, of_def, parameters_of, names_of, enter_code, function_of}
use Rattle.template_spec.specs.Template.{Items}
use Rattle.template_spec.specs.Compiled.{compiled}
use Rattle.template_meaning.specs.Build.{builds, built}
use Rattle.template_meaning.specs.Run.{runs}
use Rattle.template_meaning.specs.Calls.{result_of, level_of, enter_items, enter_ops, bottom, bottom_flow, template_table, program_table, template_calls, program_calls}
use Rattle.template_meaning.specs.Files.{items_loads, all_loads, bind_loaded, ended, File, Shelf, loader_of}
use Rattle.template_meaning.specs.Meaning.{run_blocks, Run, RunFile, names_in, build_loaded, AllStand, Agrees, FilesAgree, LoadsAgree}
use Rattle.code_spec.specs.Scopes.{ops_names}
use Rattle.template_spec.specs.Names.{items_names}
use Rattle.template_spec.specs.ControlWords.{free, WordsStand}
use Rattle.value_spec.proofs.Computations.{then_ext}
use Rattle.template_meaning.proofs.Follows.{mapped}
use Rattle.template_meaning.proofs.Runs.{onto, as_block, items_runs}
use Rattle.template_spec.proofs.NamesAgree.{same_names}
use Rattle.template_meaning.proofs.Loads.{loads_agree}
use Rattle.template_spec.proofs.Nested.{to_ops, blocks_of}
use Rattle.template_meaning.proofs.Functions.{lifted, tables_agree, IfFound, items_found}

-- what is read of the bottom is what was built
at_bottom : {H B : Type 0} (n : ℕ) (h : Flow Children → B) (r : Ending H (Flow Children)) → then_do (mapped (onto (bottom n) []) r) (λ f. give (h (bottom_flow f))) ≡ then_do r (λ f. give (h f))
at_bottom n h (done (on k) s) = refl
at_bottom n h (done (out w k) s) = refl
at_bottom n h (bad e s) = refl
at_bottom n h (asks q s k) = λ i. asks q s (λ got t. at_bottom n h (k got t) i)

module _ {H : Type 0} (language : Language H) where
  block_agrees : {B : Type 0} (call : Call H) (n : ℕ) (h : Flow Children → B) (t : Items) (env : Env) (s : State H) → WordsStand free t →
      then_do (runs language call (to_ops t) env (bottom n ∷ []) s) (λ f. give (h (bottom_flow f))) ≡ then_do (builds language call n t env no_children s) (λ f. give (h f))
  block_agrees call n h t env s p =
      (λ i. then_do ((as_block language call env (bottom n) [] (builds language call n t env) (runs language call (to_ops t) env) (items_runs language call t no_ops free env (bottom n) [] p)).by no_children s i) (λ f. give (h (bottom_flow f))))
      ∙ at_bottom n h (builds language call n t env no_children s)

  -- one function's code does the same, where the calls do
  code_agrees : (c c' : Call H) → c ≡ c' → (p : Place) (ds : List Value) (vs : Arguments) (fenv : Env) (o : Option (Code Items)) → IfFound o → (s : State H) →
      (or_ill_formed (lifted o) >>= λ x. language.bind p (parameters_of x) (names_of ops_names x) ds vs fenv >>= λ env. enter_code language (enter_ops language) c x env) s
      ≡ (or_ill_formed o >>= λ x. language.bind p (parameters_of x) (names_of items_names x) ds vs fenv >>= λ env. enter_code language (enter_items language) c' x env) s
  code_agrees c c' e p ds vs fenv None h s = refl
  code_agrees c c' e p ds vs fenv (Some (of_lambda xs b)) h s = λ i. then_do (language.bind p xs [] ds vs fenv s) (λ env. language.eval (e i) b env)
  code_agrees c c' e p ds vs fenv (Some (of_def xs z t)) h s =
      (λ i. then_do (language.bind p xs (same_names t i) ds vs fenv s) (λ env. enter_ops language c z (to_ops t) env))
      ∙ then_ext (language.bind p xs (items_names t) ds vs fenv s) _ _ (λ env s. (λ i. enter_ops language (e i) z (to_ops t) env s) ∙ block_agrees c' (level_of z) (result_of z) t env s h)

  -- a function of a program does the same, where the calls below it do
  functions_agree : (files : ℕ → Items) → AllStand files → (c c' : Call H) → c ≡ c' → (p : Place) (f : Value) (vs : Arguments) (s : State H) →
      function_call language ops_names (enter_ops language) (program_table (λ f. compiled (files f))) c p f vs s ≡ function_call language items_names (enter_items language) (template_table files) c' p f vs s
  functions_agree files placed c c' same p f vs s = then_ext (function_of p f s) _ _ (λ g s.
      (λ i. (or_ill_formed (tables_agree files g.file g.number i) >>= λ x. language.bind p (parameters_of x) (names_of ops_names x) g.defaults vs g.env >>= λ env. enter_code language (enter_ops language) c x env) s)
      ∙ code_agrees c c' same p g.defaults vs g.env (template_table files g.file g.number) (items_found g.number free (files g.file) (placed g.file)) s)

  pub calls_agree : (host : Host H) (files : ℕ → Items) → AllStand files → (d : ℕ) → program_calls language host (λ f. compiled (files f)) d ≡ template_calls language host files d
  calls_agree host files placed zero = refl
  calls_agree host files placed (suc d) = λ i p f vs s. call_with_natives language host (λ p f vs s. functions_agree files placed _ _ (calls_agree host files placed d) p f vs s i) s.steps p f vs s

  pub agrees : (host : Host H) (program : List Instruction) (t : Items) → program ≡ compiled t → WordsStand free t → Agrees language host program t
  agrees host program t e h files placed d env s =
      (λ i. Run language (program_calls language host (λ f. compiled (files f)) d) (e i) env s)
      ∙ (λ i. run_blocks language (calls_agree host files placed d i) (blocks_of t i) env s)
      ∙ block_agrees (template_calls language host files d) 0 built t env s h

  -- the blocks of a compiled template bind the names of the template
  names_agree : (t : Items) → names_in (blocks (compiled t)) ≡ items_names t
  names_agree t = ap names_in (blocks_of t) ∙ same_names t

  pub files_agree : (host : Host H) (program : List Instruction) (t : Items) → program ≡ compiled t → WordsStand free t → FilesAgree language host program t
  files_agree host program t e h files placed loader d s =
      (λ i. RunFile language host loader (λ f. compiled (files f)) d (e i) s)
      ∙ (λ i. File loader (loads_agree t i) (names_agree t i) (Run language (program_calls language host (λ f. compiled (files f)) d) (compiled t)) s)
      ∙ then_ext (all_loads loader (items_loads t) s) _ _ (λ gs r. then_ext (with_boxes (items_names t) [] r) _ _ (λ env r. then_ext (bind_loaded gs env r) _ _ (λ u r.
      (λ i. then_do (agrees host (compiled t) t refl h files placed d env r i) (ended (length s.store) env)))))

  pub loads_run_as_built : (host : Host H) (shelf : Shelf H) → LoadsAgree language host shelf
  loads_run_as_built host shelf files placed d zero f s = refl
  loads_run_as_built host shelf files placed d (suc n) f s =
      (λ i. RunFile language host (loader_of shelf (λ f s. loads_run_as_built host shelf files placed d n f s i)) (λ f. compiled (files f)) d (compiled (files f)) s)
      ∙ files_agree host (compiled (files f)) (files f) refl (placed f) files placed (loader_of shelf (build_loaded language host shelf files d n)) d s
