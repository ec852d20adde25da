-- What a run tells, of what was found out and what was written for it.
use Rattle.std.proofs.Common.{◌≡◌, ◌≢◌, ℕ, List, [], ◌∷◌, Option, Some, None, Ok, IfSome, ap, inl, inr, refl, sym, ◌∙◌}
use Rattle.std.proofs.lemmas.List.{append-nil}
use Rattle.ytt_base.specs.View.{trees_of}
use Rattle.yaml_back.proofs.ReadsBack.{reads_alone}
use Rattle.yaml_spec.specs.Text.{Text}
use Rattle.ytt_outside.specs.Sink.{Grows, grown}
use Rattle.ytt_outside.specs.Standing.{Standing}
use Rattle.ytt_spec.proofs.PrintedMeans.{printed_means}
use Rattle.ytt_spec.specs.Due.{Due, IsDue, done, fault, usage}
use Rattle.ytt_main.specs.Answers.{Answers}
use Rattle.ytt_main.specs.Endings.{Ends, HasWritten, IsDueLine, IsUntouched}
use Rattle.compile_spec.specs.Compiling.{items_asked, listing_of}
use Rattle.file_spec.specs.Names.{last_part}
use Rattle.star_grammar.specs.CodeReaders.{MeansCode}
use Rattle.ytt_spec.specs.Meaning.{Means, a_listing, documents, named_in, produced}
use Rattle.ytt_spec.specs.Words.{compile}
use Rattle.ytt_main.specs.Found.{Found, IsDueText, IsListing, IsMeant}
use Rattle.ytt_main.specs.Headline.{GivesDue, IsWhole, Meets, NothingFailed}
use Rattle.ytt_main.specs.Seen.{Files, Sink}
use Rattle.ytt_main.specs.Written.{Written, WrittenLine}
use Rattle.ytt_main.specs.declared.answer.Answer.{Answer}
use Rattle.ytt_main.specs.declared.answer.Answer.TheVariants as answer
use Rattle.ytt_main.specs.declared.run.Status.{Status}
use Rattle.ytt_main.specs.declared.run.Status.TheVariants as status

-- no bytes more
grown-nothing : (held : Option (List ℕ)) → held ≡ grown held []
grown-nothing None = refl
grown-nothing (Some bytes) = ap Some (sym (append-nil bytes))

untouched : (s : Sink) → IsUntouched s → Grows s.held_before s.held_now []
untouched s u = u.same_bytes ∙ grown-nothing s.held_before

-- a listing is what its request means
listing_meant : (words : List (List ℕ)) (files : Files) (text : List ℕ) → IsListing words files text → IsMeant words files (Ok (a_listing text))
listing_meant words files text f = record { command = compile f.asked; request = f.request; means = by files.tree f.found; none_failed = f.none_failed }
  where
    by : (t : Option (List ℕ → Standing)) → IfSome t (λ tree. MeansCode (λ r. (items_asked r f.asked.ignore_unknown f.asked.path tree).outcome) (Ok f.items)) → IfSome t (λ tree. Means (compile f.asked) tree (Ok (a_listing text)))
    by None h = tt
    by (Some tree) h = λ r reads. ap (λ o. produced (λ t. a_listing (listing_of t)) (named_in (last_part f.asked.path ∷ []) o)) (h r reads) ∙ (λ i. Ok (a_listing (sym f.text_is i)))

listing_due : (words : List (List ℕ)) (files : Files) (text : List ℕ) → IsListing words files text → IsDueText words files text
listing_due words files text f = record { produced = a_listing text; meant = listing_meant words files text f; text_is = refl }

module _ (words : List (List ℕ)) (files : Files) (out err : Sink) where
  -- what is due was given
  due_given : (s : Status) (d : Due) → IfSome files.tree (λ tree. IsDue words tree d) → Meets d s out err → GivesDue s words files out err
  due_given s d i m = by files.tree i
    where
      by : (t : Option (List ℕ → Standing)) → IfSome t (λ tree. IsDue words tree d) → IfSome t (λ tree. NothingFailed files out err → s ≢ status.Memory → (d : Due) × IsDue words tree d × Meets d s out err)
      by None i = tt
      by (Some tree) i = λ f k. (d, i, m)

  -- something failed, or there was no room
  excused : (s : Status) → (NothingFailed files out err → s ≢ status.Memory → ⊥) → GivesDue s words files out err
  excused s why = by files.tree
    where
      by : (t : Option (List ℕ → Standing)) → IfSome t (λ tree. NothingFailed files out err → s ≢ status.Memory → (d : Due) × IsDue words tree d × Meets d s out err)
      by None = tt
      by (Some tree) = λ f k. absurd (why f k)

  -- a line that is due
  line_due : (d : Due) (whole s : Status) (line : List ℕ) → IfSome files.tree (λ tree. IsDue words tree d) → ((Grows err.held_before err.held_now line) → Meets d whole out err) → WrittenLine line whole s err → GivesDue s words files out err
  line_due d whole s line told meets (inl w) = rw w.0 (due_given whole d told (meets w.1.grew))
  line_due d whole s line told meets (inr w) = excused s (λ f k. f.2 w.1.rose)

  -- what is due, where nothing failed and there was room
  pub headline : (a : Answer) (s : Status) → Found words files a → IfSome files.tree (λ tree. Answers (IsDue words tree) a) → Written a s out err → GivesDue s words files out err
  headline (answer.Documents trees) status.Done f told w = due_given status.Done (done (Text (trees_of trees))) told (record { status_is = refl; out_grew = w.0.grew; err_grew = untouched err w.1 })
  headline (answer.Documents trees) status.WriteFault f told w = excused status.WriteFault (λ n k. n.1 w.0.rose)
  headline (answer.Documents trees) status.Fault f told w = absurd w
  headline (answer.Documents trees) status.Usage f told w = absurd w
  headline (answer.Documents trees) status.ReadFault f told w = absurd w
  headline (answer.Documents trees) status.Memory f told w = absurd w
  headline (answer.Listing text) status.Done f told w = due_given status.Done (done text) told (record { status_is = refl; out_grew = w.0.grew; err_grew = untouched err w.1 })
  headline (answer.Listing text) status.WriteFault f told w = excused status.WriteFault (λ n k. n.1 w.0.rose)
  headline (answer.Listing text) status.Fault f told w = absurd w
  headline (answer.Listing text) status.Usage f told w = absurd w
  headline (answer.Listing text) status.ReadFault f told w = absurd w
  headline (answer.Listing text) status.Memory f told w = absurd w
  headline (answer.Fault line) s f told w = line_due (fault line) status.Fault s line told (λ g. record { status_is = refl; out_grew = untouched out w.1; err_grew = g }) w.0
  headline (answer.Usage line) s f told w = line_due (usage line) status.Usage s line told (λ g. record { status_is = refl; out_grew = untouched out w.1; err_grew = g }) w.0
  headline (answer.ReadFailed line) s f told w = excused s (λ n k. n.0 f.rose)
  headline answer.Memory s f told w = excused s (λ n k. k w.0)

  -- a line by its cause, or a failure
  line_ends : (whole s : Status) (line : List ℕ) → IsDueLine words files line → (HasWritten err line → Ends whole words files out err) → WrittenLine line whole s err → IsUntouched out → Ends s words files out err
  line_ends whole s line found ends (inl w) silent = rw w.0 (ends w.1)
  line_ends whole s line found ends (inr w) silent = rw w.0 (inr (record { line = line; found = found; failed = w.1; silent = silent }))

  -- each ending has its cause and shows it
  pub ending : (a : Answer) (s : Status) → Found words files a → Written a s out err → Ends s words files out err
  ending (answer.Documents trees) status.Done f w = inl (record { documents = trees_of trees; found = f.0; written = w.0; reads_back = reads_alone _ f.1 f.2; renders_itself = printed_means _ f.1 f.2; silent = w.1 })
  ending (answer.Documents trees) status.WriteFault f w = inl (record { text = Text (trees_of trees); found = record { produced = documents (trees_of trees); meant = f.0; text_is = refl }; failed = w.0; tried = w.1 })
  ending (answer.Documents trees) status.Fault f w = absurd w
  ending (answer.Documents trees) status.Usage f w = absurd w
  ending (answer.Documents trees) status.ReadFault f w = absurd w
  ending (answer.Documents trees) status.Memory f w = absurd w
  ending (answer.Listing text) status.Done f w = inr (record { listing = text; found = f; written = w.0; silent = w.1 })
  ending (answer.Listing text) status.WriteFault f w = inl (record { text = text; found = listing_due words files text f; failed = w.0; tried = w.1 })
  ending (answer.Listing text) status.Fault f w = absurd w
  ending (answer.Listing text) status.Usage f w = absurd w
  ending (answer.Listing text) status.ReadFault f w = absurd w
  ending (answer.Listing text) status.Memory f w = absurd w
  ending (answer.Fault line) s f w = line_ends status.Fault s line (inl f) (λ h. record { line = line; found = f; written = h; silent = w.1 }) w.0 w.1
  ending (answer.Usage line) s f w = line_ends status.Usage s line (inr (inl f)) (λ h. record { line = line; found = f; written = h; silent = w.1 }) w.0 w.1
  ending (answer.ReadFailed line) s f w = line_ends status.ReadFault s line (inr (inr f)) (λ h. record { line = line; found = f; written = h; silent = w.1 }) w.0 w.1
  ending answer.Memory s f w = rw w.0 (record { tried = w.1; silent = w.2 })

  -- only documents and listings are written to `out`
  pub out_untouched : (a : Answer) (s : Status) → Written a s out err → s ≢ status.Done → s ≢ status.WriteFault → IsUntouched out
  out_untouched (answer.Documents trees) status.Done w n m = absurd (n refl)
  out_untouched (answer.Documents trees) status.WriteFault w n m = absurd (m refl)
  out_untouched (answer.Documents trees) status.Fault w n m = absurd w
  out_untouched (answer.Documents trees) status.Usage w n m = absurd w
  out_untouched (answer.Documents trees) status.ReadFault w n m = absurd w
  out_untouched (answer.Documents trees) status.Memory w n m = absurd w
  out_untouched (answer.Listing text) status.Done w n m = absurd (n refl)
  out_untouched (answer.Listing text) status.WriteFault w n m = absurd (m refl)
  out_untouched (answer.Listing text) status.Fault w n m = absurd w
  out_untouched (answer.Listing text) status.Usage w n m = absurd w
  out_untouched (answer.Listing text) status.ReadFault w n m = absurd w
  out_untouched (answer.Listing text) status.Memory w n m = absurd w
  out_untouched (answer.Fault line) s w n m = w.1
  out_untouched (answer.Usage line) s w n m = w.1
  out_untouched (answer.ReadFailed line) s w n m = w.1
  out_untouched answer.Memory s w n m = w.2

  read_line_whole : (s : Status) (line : List ℕ) → WrittenLine line status.ReadFault s err → IsWhole s → files.faults_now ≡ files.faults_before
  read_line_whole s line (inl w) whole = absurd (rw w.0 at whole)
  read_line_whole s line (inr w) whole = absurd (rw w.0 at whole)

  -- no failure of the files is passed over
  pub files_whole : (a : Answer) (s : Status) → Found words files a → Written a s out err → IsWhole s → files.faults_now ≡ files.faults_before
  files_whole (answer.Documents trees) s f w whole = f.0.none_failed
  files_whole (answer.Listing text) s f w whole = f.none_failed
  files_whole (answer.Fault line) s f w whole = f.meant.none_failed
  files_whole (answer.Usage line) s f w whole = f.none_failed
  files_whole (answer.ReadFailed line) s f w whole = read_line_whole s line w.0 whole
  files_whole answer.Memory s f w whole = absurd (rw w.0 at whole)

  -- and none of `out`
  pub out_whole : (a : Answer) (s : Status) → Written a s out err → s ≡ status.Done → out.faults_now ≡ out.faults_before
  out_whole (answer.Documents trees) status.Done w e = w.0.same_count
  out_whole (answer.Documents trees) status.WriteFault w e = cc
  out_whole (answer.Documents trees) status.Fault w e = absurd w
  out_whole (answer.Documents trees) status.Usage w e = absurd w
  out_whole (answer.Documents trees) status.ReadFault w e = absurd w
  out_whole (answer.Documents trees) status.Memory w e = absurd w
  out_whole (answer.Listing text) status.Done w e = w.0.same_count
  out_whole (answer.Listing text) status.WriteFault w e = cc
  out_whole (answer.Listing text) status.Fault w e = absurd w
  out_whole (answer.Listing text) status.Usage w e = absurd w
  out_whole (answer.Listing text) status.ReadFault w e = absurd w
  out_whole (answer.Listing text) status.Memory w e = absurd w
  out_whole (answer.Fault line) s w e = w.1.same_count
  out_whole (answer.Usage line) s w e = w.1.same_count
  out_whole (answer.ReadFailed line) s w e = w.1.same_count
  out_whole answer.Memory s w e = w.2.same_count
