-- What a `HostFiles` keeps.
use Rattle.std.specs.Prelude.{ℕ}
use Rattle.ytt_outside.specs.declared.host_files.HostFiles.{HostFiles}

-- how often it failed
abbrev pub faults_in : {R : Type 0} → HostFiles R → ℕ
faults_in f = f.faults
