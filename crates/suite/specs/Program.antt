-- The program's suite (document 01, "Keyed function and cipher"): F is HMAC over SHA-256, E is ChaCha20 from block counter 1,
-- with the laws that the scheme asks of a suite, proved of the standards' definitions. [01:SC2 KF1 KF2]
use Rattle.scheme.specs.Suite.{Suite}
use Rattle.hmac.specs.Hmac.{F}
use Rattle.hmac.proofs.Laws.{length-F}
use Rattle.chacha20.specs.Cipher.{E}
use Rattle.chacha20.specs.Laws.{E-length, e_undoes}

unfoldable pub program : Suite
program = record { F = F; E = E; f_length = length-F; e_length = E-length; e_undoes = e_undoes }
