-- What is listed of a file, by what was read of it.
use Rattle.std.proofs.Common.{◌≡◌, ◌∙◌, ℕ, Bool, true, false, List, [], ◌∷◌, Option, Some, None, Ok, Err, IfSome, ap, sym, refl, subst, inl}
use Rattle.ytt_base.specs.declared.fault.FaultKind.TheVariants as kind
use Rattle.ytt_base.specs.declared.fault.Stop.{Stop}
use Rattle.ytt_base.specs.declared.fault.Stop.TheVariants as plain_stop
use Rattle.ytt_base.specs.Outcomes.{Outcome}
use Rattle.code_spec.specs.CodeReading.{CodeReader}
use Rattle.compile_spec.specs.Compiling.{is_compiled, items_asked, text_items}
use Rattle.file_find.specs.Reads.{FailsAt, Reads}
use Rattle.file_find.specs.declared.found.FindStop.{FindStop}
use Rattle.file_find.specs.declared.found.FindStop.TheVariants as find_stop
use Rattle.file_find.specs.Finds.{stop_of}
use Rattle.file_spec.specs.Asked.{AsksFor, Traced, after_one, bytes_of, told, refused, ◌>>=◌}
use Rattle.file_spec.specs.Finding.{path_fault}
use Rattle.file_spec.specs.Limits.{largest_file}
use Rattle.file_spec.specs.Names.{last_part}
use Rattle.file_spec.specs.Reading.{bytes_within}
use Rattle.file_units.specs.Stops.{stop_with}
use Rattle.file_units.specs.Templates.{CompilesItems}
use Rattle.listing_spec.specs.Listing.{listing}
use Rattle.star_grammar.specs.CodeReaders.{MeansCode}
use Rattle.star_resolve.specs.declared.binding.Resolved.{Resolved}
use Rattle.star_tree.specs.Whole.{program_of}
use Rattle.template_spec.specs.Template.{Items}
use Rattle.file_listing.specs.Lists.{HasListCause, Lists, ListsFile, ListsFound, Tree, items_at}

-- ---- a text

pub stop_lists : (n : ℕ) (outcome : CodeReader → Outcome Items) (s : Stop) → CompilesItems n (Err s) outcome → Lists (Err s) outcome
stop_lists n outcome (plain_stop.Fault f) h = h
stop_lists n outcome plain_stop.Memory h = tt

pub program_lists : (n : ℕ) (outcome : CodeReader → Outcome Items) (q : Resolved) (text : List ℕ) → CompilesItems n (Ok q) outcome → text ≡ listing (program_of q.program) → Lists (Ok text) outcome
program_lists n outcome q text (t, means, c) e = (t, means, record { text_is = e ∙ ap listing c.code; words_stand = c.words_stand })

-- ---- a file

-- what is asked where the file is compiled
abbrev asked_for : (r : CodeReader) (ignore : Bool) (path : List ℕ) → Tree → Traced Items
asked_for r ignore path tree = after_one (bytes_of path) (told (bytes_within largest_file path (tree path))) >>= (λ bytes. told (text_items r ignore bytes))

items_are : (r : CodeReader) (ignore : Bool) (path : List ℕ) (tree : Tree) → is_compiled (last_part path) ≡ true → items_asked r ignore path tree ≡ asked_for r ignore path tree
items_are r ignore path tree h = ap (λ b. elim b [ true ↦ asked_for r ignore path tree | false ↦ refused (path_fault kind.FileMissing path) ]) h

read_items : (r : CodeReader) (ignore : Bool) (path bytes : List ℕ) (tree : Tree) → is_compiled (last_part path) ≡ true → bytes_within largest_file path (tree path) ≡ Ok bytes → items_at ignore path tree r ≡ text_items r ignore bytes
read_items r ignore path bytes tree h e = ap (λ (t : Traced Items). t.outcome) (items_are r ignore path tree h) ∙ ap (λ o. (after_one (bytes_of path) (told o) >>= (λ bs. told (text_items r ignore bs))).outcome) e

module _ (ignore : Bool) (path : List ℕ) where
  -- it isn't compiled
  pub missing_listed : (tree : Option Tree) → is_compiled (last_part path) ≡ false → ListsFile ignore path tree (Err (find_stop.Fault (path_fault kind.FileMissing path)))
  missing_listed None h = tt
  missing_listed (Some t) h = λ r reads. ap (λ (a : Traced Items). a.outcome) (ap (λ b. elim b [ true ↦ asked_for r ignore path t | false ↦ refused (path_fault kind.FileMissing path) ]) h)

  module _ (compiled : is_compiled (last_part path) ≡ true) where
    -- its bytes aren't there
    pub unread_listed : (tree : Option Tree) (s : FindStop) → IfSome tree (λ t. Reads (bytes_within largest_file path (t path)) (Err s)) → ListsFile ignore path tree (Err s)
    unread_listed None (find_stop.Fault f) h = tt
    unread_listed (Some t) (find_stop.Fault f) h = λ r reads.
        ap (λ (a : Traced Items). a.outcome) (items_are r ignore path t compiled) ∙ ap (λ o. (after_one (bytes_of path) (told o) >>= (λ bs. told (text_items r ignore bs))).outcome) h
    unread_listed tree (find_stop.ReadFailed at) h = compiled
    unread_listed tree find_stop.Memory h = tt

    -- or they are
    pub text_listed : (tree : Option Tree) (bytes : List ℕ) (text : List ℕ) → IfSome tree (λ t. bytes_within largest_file path (t path) ≡ Ok bytes) → Lists (Ok text) (λ r. text_items r ignore bytes) → ListsFile ignore path tree (Ok text)
    text_listed tree bytes text told (t, means, is) = (t, by tree told, is)
      where
        by : (tree : Option Tree) → IfSome tree (λ t. bytes_within largest_file path (t path) ≡ Ok bytes) → IfSome tree (λ s. MeansCode (items_at ignore path s) (Ok t))
        by None h = tt
        by (Some s) h = λ r reads. read_items r ignore path bytes s compiled h ∙ means r reads

    pub stop_listed : (tree : Option Tree) (bytes : List ℕ) (s : Stop) → IfSome tree (λ t. bytes_within largest_file path (t path) ≡ Ok bytes) → Lists (Err s) (λ r. text_items r ignore bytes) → ListsFile ignore path tree (Err (stop_of s))
    stop_listed None bytes (plain_stop.Fault f) told means = tt
    stop_listed (Some t) bytes (plain_stop.Fault f) told means = λ r reads. read_items r ignore path bytes t compiled told ∙ means r reads
    stop_listed tree bytes plain_stop.Memory told means = tt

  -- ---- with the name of the file

  pub found_stop : (tree : Option Tree) (s : FindStop) (names : List (List ℕ)) → names ≡ last_part path ∷ [] → ListsFile ignore path tree (Err s) → ListsFound ignore path tree (Err (stop_with names s))
  found_stop tree (find_stop.Fault f) names e h = (e, h)
  found_stop tree (find_stop.ReadFailed at) names e h = tt
  found_stop tree find_stop.Memory names e h = tt

  asks_for_it : (r : CodeReader) (tree : Tree) → is_compiled (last_part path) ≡ true → AsksFor path (items_asked r ignore path tree).asks
  asks_for_it r tree h = subst (λ (t : Traced Items). AsksFor path t.asks) (sym (items_are r ignore path tree h)) (inl refl)

  pub found_cause : (tree : Option Tree) (before now : ℕ) (s : FindStop) (names : List (List ℕ)) → ListsFile ignore path tree (Err s) → FailsAt path before now (Err s) → HasListCause ignore path tree before now (Err (stop_with names s))
  found_cause tree before now (find_stop.Fault f) names h c = c
  found_cause None before now (find_stop.ReadFailed at) names h c = (c.0, λ r reads. inl (inl c.1))
  found_cause (Some t) before now (find_stop.ReadFailed at) names h c = (c.0, λ r reads. subst (λ p. AsksFor p (items_asked r ignore path t).asks) (sym c.1) (asks_for_it r t h))
  found_cause tree before now find_stop.Memory names h c = tt
