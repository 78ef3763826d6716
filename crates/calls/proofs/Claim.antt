-- Demand 3 of the program: the scheme's claim at HMAC-SHA-256 and ChaCha20. A run of the nine calls of this crate and of queries is
-- a run of it, since each contract is the step. [01:LG20]
use Rattle.scheme.specs.Claim.{Claim}
use Rattle.scheme.specs.Corollaries.{NoFaults}
use Rattle.scheme.proofs.Claim.{claim}
use Rattle.scheme.proofs.Corollaries.{no_faults}
use Rattle.suite.specs.Program.{program}

pub program_claim : Claim program
program_claim = claim program

-- and a check of the store that it leaves counts nothing [check:10]
pub program_no_faults : NoFaults program
program_no_faults = no_faults program
