-- Document 01, "Keyed function and cipher": F and E by their only laws, and numbers as bytes. Every definition and the
-- claim take a suite; the program's is HMAC-SHA-256 with ChaCha20.
use Rattle.std.specs.Prelude.{ℕ, ◌≡◌, List, length}
use Rattle.octets.specs.Number.{bytes, number}

-- F(k, x) gives 32 bytes [01:KF1]; E(k, n, t) keeps the length [01:KF2] and undoes itself [01:KF3]
pub record Suite : Type 0 where
  pub F : List ℕ → List ℕ → List ℕ
  pub E : List ℕ → List ℕ → List ℕ → List ℕ
  pub f_length : (k x : List ℕ) → length (F k x) ≡ 32
  pub e_length : (k n t : List ℕ) → length (E k n t) ≡ length t
  pub e_undoes : (k n t : List ℕ) → E k n (E k n t) ≡ t

-- a number inside a message or plaintext is 8 bytes, big-endian [01:KF6]
unfoldable pub number8 : ℕ → List ℕ
number8 n = bytes 8 n

-- the number that bytes stand for, big-endian
unfoldable pub value_of : List ℕ → ℕ
value_of bs = number bs
