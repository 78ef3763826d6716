-- The claim (document 01, "The ledger"): every list of calls on a fresh store is answered as the ledger answers it.
use Rattle.std.specs.Prelude.{ℕ, ◌≡◌, false, List, length}
use Rattle.table.specs.Lists.{All}
use Rattle.scheme.specs.Suite.{Suite}
use Rattle.scheme.specs.Store.{Sizes, sizes_bad, fresh}
use Rattle.scheme.specs.Call.{Call}
use Rattle.scheme.specs.Ledger.{Bounds, empty, ledger_tells}
use Rattle.scheme.specs.Run.{store_tells}
use Rattle.scheme.specs.Premise.{Premise, KeyFits}

-- what the ledger knows of the store's sizes
abbrev pub bounds_of : Sizes → Bounds
bounds_of z = record { p = z.p; m = z.m; c = z.c; s = z.s; r = z.r }

-- for every master key of 32 bytes, all sizes in range, every list of calls with that key or keys of a refused length, under the
-- premise on tags: what the list tells on a fresh store is what the ledger tells [01:KT1 LG14 LG17 LG18 LG19] [02:W2.10 W4.26]
unfoldable pub Claim : Suite → Type 0
Claim suite =
    (K : List ℕ) (z : Sizes) (calls : List Call)
    → length K ≡ 32
    → sizes_bad z ≡ false
    → All (KeyFits K) calls
    → Premise suite K z.p calls
    → store_tells suite calls (fresh z) ≡ ledger_tells (bounds_of z) empty calls
