-- What is seen of the files and of a sink over a whole run.
use Rattle.std.specs.Prelude.{ℕ, List, Option}
use Rattle.ytt_outside.specs.Standing.{Standing}

-- the tree that the files tell, and how often they failed, up to the start and up to the end
pub record Files : Type 0 where
  pub tree : Option (List ℕ → Standing)
  pub faults_before : ℕ
  pub faults_now : ℕ

-- what the sink tells that it holds, and how often it failed, at the start and at the end
pub record Sink : Type 0 where
  pub held_before : Option (List ℕ)
  pub held_now : Option (List ℕ)
  pub faults_before : ℕ
  pub faults_now : ℕ

-- by what files tell, as they are before and after
abbrev pub seen_files : {F : Type 0} → (tree : F → Option (List ℕ → Standing)) → (faults : F → ℕ) → (before now : F) → Files
seen_files tree faults before now = record { tree = tree before; faults_before = faults before; faults_now = faults now }

-- by what a sink tells, as it is before and after
abbrev pub seen_sink : {S : Type 0} → (held : S → Option (List ℕ)) → (faults : S → ℕ) → (before now : S) → Sink
seen_sink held faults before now = record { held_before = held before; held_now = held now; faults_before = faults before; faults_now = faults now }
