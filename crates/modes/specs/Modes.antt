-- Modes. A file that takes another's place has the other's mode, and less of it where it could not be given to the same hands.
use Rattle.std.specs.Prelude.{ℕ}
use Rattle.std.specs.Int.Bits.{bit_and}
use Rattle.modes.specs.declared.Rights.{Rights}
use Rattle.modes.specs.declared.Rights.TheVariants.{Of}
use Rattle.modes.specs.declared.Given.{Given}
use Rattle.modes.specs.declared.Given.TheVariants.{Both, Group, Nothing}

-- 0o7777, every bit; 0o777, no set-id and sticky bits; 0o700, what the owner may do
abbrev pub mode_of : Given → ℕ → ℕ
mode_of Both mode = bit_and mode 4095
mode_of Group mode = bit_and mode 511
mode_of Nothing mode = bit_and mode 448

-- a file for its maker alone: 0o600, and owner and group as they are
abbrev pub private_rights : Rights
private_rights = Of 384 4294967295 4294967295
