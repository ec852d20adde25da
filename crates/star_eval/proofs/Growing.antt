-- What is held stays owned, and the same, as the arena grows.
use Rattle.std.proofs.Common.{◌≡◌, ℕ, List, [], ◌∷◌, drop, reverse, Option, Some, None, option_map, refl, ap, subst, sym, ◌∙◌, IsTrue, rules}
use Rattle.std.proofs.lemmas.List.{reverse-append}
use Rattle.star_blocks.specs.Nested.{ops_of}
use Rattle.star_tree.specs.Listed.{clauses_of, entries_of, optional_of}
use Rattle.star_tree.specs.Whole.{binary_operator_of, expr_of, exprs_of, parameters_of}
use Rattle.node_build.proofs.Growing.{nodes_kept}
use Rattle.star_values.proofs.Growing.{each_joined, lent_same, owns_all_kept, owns_kept, owns_lent_kept, value_kept, values_kept, variable_kept}
use Rattle.star_values.specs.Objects.{env_in, pairs_in}
use Rattle.star_values.specs.Owns.{Each, Grows, OwnsArguments, OwnsEnv, OwnsPair, object_at}
use Rattle.star_values.specs.View.{View, arguments_in}
use Rattle.star_values.specs.declared.object.NamedBox.{NamedBox}
use Rattle.star_values.specs.declared.value.Ref.{Ref}
use Rattle.star_values.specs.declared.value.Sort.{Sort}
use Rattle.star_values.specs.declared.value.Value.{Value}
use Rattle.value_spec.specs.Keys.{IsKey}
use Rattle.star_calls.proofs.Kept.{fields_kept}
use Rattle.star_calls.specs.View.{form_of}
use Rattle.star_sorting.specs.View.{wanted_of}
use Rattle.star_tree.specs.View.{item_kind_of}
use Rattle.star_values.specs.declared.value.CallArgs.{CallArgs}
use Rattle.value_spec.specs.Values.{arguments, values_from}
use Rattle.star_eval.specs.Calling.{functions_at}
use Rattle.star_eval.specs.Doing as doing
use Rattle.star_eval.specs.declared.frame.Bag as held_bag
use Rattle.star_eval.specs.declared.frame.Bag.TheVariants as bag
use Rattle.star_eval.specs.declared.frame.Caller.{Caller}
use Rattle.star_eval.specs.declared.frame.Code.{Code}
use Rattle.star_eval.specs.declared.frame.Frame.{Frame}
use Rattle.star_eval.specs.declared.frame.Frame.TheVariants as frame
use Rattle.star_eval.specs.declared.frame.InBlock as held_block
use Rattle.star_eval.specs.declared.frame.InBlock.TheVariants as in_block
use Rattle.star_eval.specs.declared.frame.InClauses as held_clauses
use Rattle.star_eval.specs.declared.frame.InClauses.TheVariants as in_clauses
use Rattle.star_eval.specs.declared.frame.InElement as held_element
use Rattle.star_eval.specs.declared.frame.InElement.TheVariants as in_element
use Rattle.star_eval.specs.declared.frame.InIndex as held_index
use Rattle.star_eval.specs.declared.frame.InIndex.TheVariants as in_index
use Rattle.star_eval.specs.declared.frame.InStatement as held_statement
use Rattle.star_eval.specs.declared.frame.InStatement.TheVariants as in_statement
use Rattle.star_eval.specs.declared.frame.InValue as held_value
use Rattle.star_eval.specs.declared.frame.InValue.TheVariants as in_value
use Rattle.star_eval.specs.declared.frame.Machine.{Machine}
use Rattle.star_eval.specs.declared.frame.Pending.{Pending}
use Rattle.star_eval.specs.Hosts.{OwnsHosted, host_held, host_name, is_hosted, native_at}
use Rattle.star_values.specs.declared.value.Value.TheVariants as value
use Rattle.value_spec.specs.Values as plain_value
use Rattle.star_eval.specs.declared.session.Session.{Session}
use Rattle.star_eval.specs.declared.source.Members.{Members}
use Rattle.star_eval.specs.declared.source.Members.TheVariants as members
use Rattle.star_eval.specs.declared.source.Source.{Source}
use Rattle.star_values.specs.Objects.{walked_members}
use Rattle.star_values.specs.View.{members_in as held_members}
use Rattle.star_eval.specs.Meets.{arena_of}
use Rattle.star_eval.specs.Sources.{OwnsMembers, OwnsSource, Walked, all_members, left_of, walked_sort}
use Rattle.star_eval.specs.View.{OwnsBag, OwnsCaller, OwnsFrame, OwnsInBlock, OwnsInClauses, OwnsInElement, OwnsInIndex, OwnsInStatement, OwnsInValue, OwnsPending, Sound, arena_in, bag_of, block_frame, caller_of, clauses_frame, code_under, element_frame, frame_of, frames_of, gathering_of, index_frame, making_of, native_frame, nodes_in, setting_of, statement_frame, value_frame, waiting_in}
use Rattle.star_eval.specs.Waiting as plain
use Rattle.star_eval.specs.Waiting.{setting}

-- ---- scopes

pub env_kept : (a b : View) (bs : List NamedBox) → Grows a b → OwnsEnv a bs → OwnsEnv b bs × (env_in b.held bs ≡ env_in a.held bs)
env_kept a b [] g w = (tt, refl)
env_kept a b (x ∷ bs) g w =
    let k = variable_kept a b x g w.0 in
    let more = env_kept a b bs g w.1 in
    ((k.0, more.0), λ i. k.1 i ∷ more.1 i)

-- ---- members

members_kept : (a b : View) (ms : Members) → Grows a b → OwnsMembers a ms → OwnsMembers b ms × (all_members b ms ≡ all_members a ms)
members_kept a b (members.Listed vs) g w = (owns_all_kept a b vs g w, values_kept a b vs g w)
members_kept a b (members.Tuple r) g w = (owns_kept a b (value.Tuple r) g w, ap (λ v. plain_value.values_in (held_members v)) (value_kept a b (value.Tuple r) g w))
members_kept a b (members.Lent l) g w = (owns_lent_kept a b l g w, ap walked_members (lent_same a b l g w))
members_kept a b (members.Numbers n) g w = (tt, refl)

pub source_kept : (a b : View) (s : Source) → Grows a b → OwnsSource a s → OwnsSource b s × (left_of b s ≡ left_of a s)
source_kept a b s g w = let k = members_kept a b s.members g w in (k.0, ap (drop s.next) k.1)

still_walked : (o p : Option Sort) → ((k : Sort) → o ≡ Some k → p ≡ Some k) → IsTrue (walked_sort o) → IsTrue (walked_sort p)
still_walked None p f h = absurd (search (rules, h))
still_walked (Some k) p f h = subst (λ q. IsTrue (walked_sort q)) (sym (f k refl)) h

pub walked_kept : (a b : View) (r : Ref) → Grows a b → Walked a r → Walked b r
walked_kept a b r g w = still_walked (object_at a r.at) (object_at b r.at) (g.objects r.at) w

-- ---- pairs

pairs_kept : (a b : View) (ps : List (Value × Value)) → Grows a b → Each (OwnsPair a) ps → Each (OwnsPair b) ps × (pairs_in b.held ps ≡ pairs_in a.held ps)
pairs_kept a b [] g w = (tt, refl)
pairs_kept a b (p ∷ ps) g w =
    let key = value_kept a b p.0 g w.0.0 in
    let value = value_kept a b p.1 g w.0.1 in
    let more = pairs_kept a b ps g w.1 in
    (((owns_kept a b p.0 g w.0.0, owns_kept a b p.1 g w.0.1, subst IsKey (sym key) w.0.2), more.0), λ i. (key i, value i) ∷ more.1 i)

-- ---- arguments

pub arguments_kept : (a b : View) (given : CallArgs) → Grows a b → OwnsArguments a given → OwnsArguments b given × (arguments_in b.held given ≡ arguments_in a.held given)
arguments_kept a b given g w =
    let values = values_kept a b given.positional g w.0 in
    let fields = fields_kept a b given.named g w.1 in
    ((owns_all_kept a b given.positional g w.0, fields.0), λ i. arguments (values_from (values i)) (fields.1 i))

-- ---- frames

module _ (a b : View) (file : ℕ) (g : Grows a b) where
  in_index_kept : (f : held_index.InIndex) → OwnsInIndex a f → OwnsInIndex b f × (index_frame b file f ≡ index_frame a file f)
  in_index_kept (in_index.IndexOf p i) w = (tt, refl)
  in_index_kept (in_index.IndexAt p x) w = (owns_kept a b x g w, ap (plain.index_at p) (value_kept a b x g w))
  in_index_kept (in_index.BoundsOf p i j k) w = (tt, refl)
  in_index_kept (in_index.EndOf p x j k) w = (owns_kept a b x g w, ap (λ v. plain.end_of p v (optional_of file j.now) (optional_of file k.now)) (value_kept a b x g w))
  in_index_kept (in_index.StepOf p x y k) w = ((owns_kept a b x g w.0, owns_kept a b y g w.1), λ i. plain.step_of p (value_kept a b x g w.0 i) (value_kept a b y g w.1 i) (optional_of file k.now))
  in_index_kept (in_index.CutAt p x y z) w = ((owns_kept a b x g w.0, owns_kept a b y g w.1, owns_kept a b z g w.2), λ i. plain.cut_at p (value_kept a b x g w.0 i) (value_kept a b y g w.1 i) (value_kept a b z g w.2 i))
  in_index_kept (in_index.TargetOf p i v) w = (owns_kept a b v g w, ap (plain.target_of p (expr_of file i.now)) (value_kept a b v g w))
  in_index_kept (in_index.TargetAt p x v) w = ((owns_kept a b x g w.0, owns_kept a b v g w.1), λ i. plain.target_at p (value_kept a b x g w.0 i) (value_kept a b v g w.1 i))

  pub bag_kept : (x : held_bag.Bag) → OwnsBag a x → OwnsBag b x × (bag_of b file x ≡ bag_of a file x)
  bag_kept (bag.Values e vs) w = (owns_all_kept a b vs g w, ap (doing.values_bag (expr_of file e.now)) (values_kept a b vs g w))
  bag_kept (bag.Pairs e d ps) w = let k = pairs_kept a b ps.entries g w in (k.0, ap (doing.pairs_bag (expr_of file e.now) (expr_of file d.now)) k.1)

  in_value_kept : (f : held_value.InValue) → OwnsInValue a f → OwnsInValue b f × (value_frame b file f ≡ value_frame a file f)
  in_value_kept (in_value.Right p o x) w = (tt, refl)
  in_value_kept (in_value.Operate p o x) w = (owns_kept a b x g w, ap (plain.operate p (binary_operator_of o)) (value_kept a b x g w))
  in_value_kept (in_value.OperateOn p o) w = (tt, refl)
  in_value_kept (in_value.Member k es vs) w = (owns_all_kept a b vs g w, ap (plain.member (gathering_of k) (exprs_of file es.now)) (values_kept a b vs g w))
  in_value_kept (in_value.AndThen x) w = (tt, refl)
  in_value_kept (in_value.OrElse x) w = (tt, refl)
  in_value_kept (in_value.Choose x y) w = (tt, refl)
  in_value_kept (in_value.Targets p es s) w = let k = source_kept a b s g w in (k.0, ap (plain.targets p (exprs_of file es.now)) k.1)
  in_value_kept (in_value.KeyOf p e es ps) w = let k = pairs_kept a b ps.entries g w in (k.0, ap (plain.key_of p (expr_of file e.now) (entries_of file es.now)) k.1)
  in_value_kept (in_value.PairOf p x es ps) w = let k = pairs_kept a b ps.entries g w.1 in ((owns_kept a b x g w.0, k.0), λ i. plain.pair_of p (value_kept a b x g w.0 i) (entries_of file es.now) (k.1 i))
  in_value_kept (in_value.Index f) w = in_index_kept f w
  in_value_kept (in_value.Callee p es) w = (tt, refl)
  in_value_kept (in_value.Argument p h f es given) w =
      let k = arguments_kept a b given g w.1 in
      ((owns_kept a b h g w.0, k.0), λ i. plain.argument p (value_kept a b h g w.0 i) (form_of f) (exprs_of file es.now) (k.1 i))
  in_value_kept (in_value.Default m ps vs) w = (owns_all_kept a b vs g w, ap (plain.default_of (making_of m) (parameters_of file ps.now)) (values_kept a b vs g w))
  in_value_kept (in_value.First p cs x) w = let k = bag_kept x w in (k.0, ap (plain.first_members p (clauses_of file cs.now)) k.1)
  in_value_kept (in_value.Attribute p x) w = (tt, refl)
  in_value_kept (in_value.Key left p k f vs ks) w =
      ((owns_kept a b f g w.0, owns_all_kept a b vs g w.1, owns_all_kept a b ks g w.2), λ i. plain.next_key left p (wanted_of k) (value_kept a b f g w.0 i) (values_kept a b vs g w.1 i) (values_kept a b ks g w.2 i))
  in_value_kept (in_value.Shown p ps t) w = (tt, refl)

  in_statement_kept : (f : held_statement.InStatement) → OwnsInStatement a f → OwnsInStatement b f × (statement_frame b file f ≡ statement_frame a file f)
  in_statement_kept in_statement.Discard w = (tt, refl)
  in_statement_kept (in_statement.AssignTo p x) w = (tt, refl)
  in_statement_kept (in_statement.Augment q o p x old) w = (owns_kept a b old g w, ap (plain.augment q (binary_operator_of o) p x.now) (value_kept a b old g w))
  in_statement_kept (in_statement.AugmentOf q o r i e) w = (tt, refl)
  in_statement_kept (in_statement.AugmentAt q o r x e) w = (owns_kept a b x g w, ap (λ v. plain.augment_at q (binary_operator_of o) r v (expr_of file e.now)) (value_kept a b x g w))
  in_statement_kept (in_statement.AugmentIndex q o r x y old) w =
      ((owns_kept a b x g w.0, owns_kept a b y g w.1, owns_kept a b old g w.2), λ i. plain.augment_index q (binary_operator_of o) r (value_kept a b x g w.0 i) (value_kept a b y g w.1 i) (value_kept a b old g w.2 i))
  in_statement_kept in_statement.Return w = (tt, refl)
  in_statement_kept (in_statement.Branch os bs) w = (tt, refl)
  in_statement_kept (in_statement.Walk p x os) w = (tt, refl)
  in_statement_kept (in_statement.Enter os) w = (tt, refl)
  in_statement_kept in_statement.Take w = (tt, refl)
  in_statement_kept in_statement.TakeKey w = (tt, refl)
  in_statement_kept (in_statement.Bind p x) w = (tt, refl)
  in_statement_kept (in_statement.NoteArgument x f es given) w = let k = arguments_kept a b given g w in (k.0, ap (plain.note_argument x.now (form_of f) (exprs_of file es.now)) k.1)

  pub in_block_kept : (f : held_block.InBlock) → OwnsInBlock a f → OwnsInBlock b f × (block_frame b file f ≡ block_frame a file f)
  in_block_kept (in_block.Turn p x os s) w = let k = source_kept a b s g w in (k.0, ap (plain.turn p (expr_of file x.now) (ops_of file os.now)) k.1)
  in_block_kept (in_block.Rest os) w = (tt, refl)
  in_block_kept (in_block.WalkEnd r) w = (walked_kept a b r g w, refl)

  in_element_kept : (f : held_element.InElement) → OwnsInElement a f → OwnsInElement b f × (element_frame b file f ≡ element_frame a file f)
  in_element_kept (in_element.Members p x cs y) w = let k = bag_kept y w in (k.0, ap (plain.members_of_clause p (expr_of file x.now) (clauses_of file cs.now)) k.1)
  in_element_kept (in_element.Test p cs y) w = let k = bag_kept y w in (k.0, ap (plain.test_of_clause p (clauses_of file cs.now)) k.1)
  in_element_kept (in_element.Enter p cs y) w = let k = bag_kept y w in (k.0, ap (plain.enter_clauses p (clauses_of file cs.now)) k.1)
  in_element_kept (in_element.Single e vs) w = (owns_all_kept a b vs g w, ap (plain.element (expr_of file e.now)) (values_kept a b vs g w))
  in_element_kept (in_element.KeyOf p e d ps) w = let k = pairs_kept a b ps.entries g w in (k.0, ap (plain.element_key p (expr_of file e.now) (expr_of file d.now)) k.1)
  in_element_kept (in_element.PairOf p x e d ps) w =
      let k = pairs_kept a b ps.entries g w.1 in
      ((owns_kept a b x g w.0, k.0), λ i. plain.element_pair p (value_kept a b x g w.0 i) (expr_of file e.now) (expr_of file d.now) (k.1 i))

  pub in_clauses_kept : (f : held_clauses.InClauses) → OwnsInClauses a f → OwnsInClauses b f × (clauses_frame b file f ≡ clauses_frame a file f)
  in_clauses_kept (in_clauses.Turn p x cs s) w = let k = source_kept a b s g w in (k.0, ap (plain.clause_turn p (expr_of file x.now) (clauses_of file cs.now)) k.1)
  in_clauses_kept (in_clauses.WalkEnd r) w = (walked_kept a b r g w, refl)

-- ---- natives of a host

abbrev native_or : plain_value.Value → plain_value.Native
native_or (plain_value.native_value x) = x
native_or _ = plain_value.builtin []

pub native_kept : (a b : View) (r : Ref) → Grows a b → OwnsHosted a r → native_at b r ≡ native_at a r
native_kept a b r g w = ap native_or (value_kept a b (value.Native r) g w.0)

pub hosted_kept : (a b : View) (r : Ref) → Grows a b → OwnsHosted a r → OwnsHosted b r
hosted_kept a b r g w = (owns_kept a b (value.Native r) g w.0, ap is_hosted (native_kept a b r g w) ∙ w.1)

module _ (a b : View) (g : Grows a b) where
  pub pending_kept : (p : Pending) → OwnsPending a p → OwnsPending b p × (native_frame b p ≡ native_frame a p)
  pending_kept p w =
      let x = native_kept a b p.asking.native g w.0 in
      let nodes = nodes_kept a b p.nodes g w.1 in (
        (hosted_kept a b p.asking.native g w.0, nodes.0),
        λ i. plain.in_native (record { left = p.asking.left; place = p.asking.place; name = host_name (x i); held = host_held (x i); tag = p.tag }) (nodes.1 i),
      )

module _ (a b : View) (code : Code) (g : Grows a b) where
  pub caller_kept : (c : Caller) → OwnsCaller a c → OwnsCaller b c × (caller_of b code c ≡ caller_of a code c)
  caller_kept c w =
      let env = env_kept a b c.scope g w.0 in
      let nodes = nodes_kept a b c.nodes g w.1 in
      ((env.0, nodes.0), λ i. plain.caller (functions_at code.functions c.depth) (env.1 i) (nodes.1 i) (option_map item_kind_of c.fragment))

  frame_kept : (f : Frame) → OwnsFrame a f → OwnsFrame b f × (frame_of b code f ≡ frame_of a code f)
  frame_kept (frame.Value f) w = let k = in_value_kept a b code.file g f w in (k.0, ap plain.in_value k.1)
  frame_kept (frame.Statement f) w = let k = in_statement_kept a b code.file g f w in (k.0, ap plain.in_statement k.1)
  frame_kept (frame.Block f) w = let k = in_block_kept a b code.file g f w in (k.0, ap plain.in_block k.1)
  frame_kept (frame.Element f) w = let k = in_element_kept a b code.file g f w in (k.0, ap plain.in_element k.1)
  frame_kept (frame.Clauses f) w = let k = in_clauses_kept a b code.file g f w in (k.0, ap plain.in_clauses k.1)
  frame_kept (frame.Gather scope) w = let k = env_kept a b scope g w in (k.0, ap plain.gather k.1)
  frame_kept (frame.Call c) w = caller_kept c w
  frame_kept (frame.Native p) w = pending_kept a b g p w

pub frames_kept : (a b : View) (code : Code) → Grows a b → (fs : List Frame) → Each (OwnsFrame a) fs → Each (OwnsFrame b) fs × (frames_of b code fs ≡ frames_of a code fs)
frames_kept a b code g [] w = (tt, refl)
frames_kept a b code g (f ∷ fs) w =
    let k = frame_kept a b code g f w.0 in
    let more = frames_kept a b (code_under code f) g fs w.1 in
    ((k.0, more.0), λ i. k.1 i ∷ more.1 i)

-- ---- the same from the innermost one on

pub reversed_each : {A : Type 0} (P : A → Type 0) (xs : List A) → Each P xs → Each P (reverse xs)
reversed_each P [] w = tt
reversed_each P (x ∷ xs) w = subst (Each P) (sym (reverse-append (x ∷ []) xs)) (each_joined P (reverse xs) (x ∷ []) (reversed_each P xs w.1) (w.0, tt))

-- ---- a machine with a session whose arena has grown

pub record Kept (m n : Machine) : Type 0 where
  pub setting : setting_of n ≡ setting_of m
  pub nodes : nodes_in n ≡ nodes_in m
  pub waiting : waiting_in n ≡ waiting_in m
  pub sound : Sound n
  pub grows : Grows (arena_in m) (arena_in n)

pub kept : (m : Machine) (s : Session) → Grows (arena_in m) (arena_of s) → Sound m → Kept m (record m { session = s })
kept m s g w =
    let a = arena_in m in
    let b = arena_of s in
    let env = env_kept a b m.scope g w.scope in
    let nodes = nodes_kept a b m.nodes g w.nodes in
    record {
      setting = λ i. setting (functions_at m.code.functions m.depth) (env.1 i);
      nodes = nodes.1;
      waiting = (frames_kept a b m.code g (reverse m.frames) (reversed_each (OwnsFrame a) m.frames w.frames)).1;
      sound = record { scope = env.0; nodes = nodes.0; frames = (frames_kept a b m.code g m.frames w.frames).0 };
      grows = g;
    }
