-- Laws of rows: two numbers fill the plaintext of a row of C; rows under prepared keys are the scheme's; and nonce and
-- ciphertext of a row at a place are parts of its table.
use Prim.Native.Nat.{ℕ, ◌+◌, ◌-◌, ◌*◌, ◌<◌}
use mathlib.Core.Path.{◌≡◌, sym, ap, ap₂, ◌∙◌}
use mathlib.Core.List.{List, [], ◌∷◌, ◌++◌}
use native.Mathlib.Omega.{arith}
use lib.Dec.{lit≤}
use lib.ListN.{length, get_or, take, drop, length-drop}
use lib.Seq.{take_all, drop-drop}
use Rattle.octets.specs.Number.{bytes}
use Rattle.octets.specs.Part.{back}
use Rattle.octets.proofs.Parts.{halves, length_part, length_back}
use Rattle.hmac.specs.declared.Keyed.{Keyed}
use Rattle.chacha20.specs.Cipher.{E}
use Rattle.table.specs.Table.{Row, rows, body}
use Rattle.table.proofs.Walk.{row_part, row_length, field_at, body_field, body_tail}
use Rattle.scheme.specs.Suite.{number8}
use Rattle.scheme.specs.Store.{table_m, table_s, width_of, entry_row, reverse_row, counted_row, cl_in}
use Rattle.suite.specs.Program.{program}
use Rattle.format.specs.declared.Address.{Address}
use Rattle.format.specs.declared.Keys.{Keys}
use Rattle.format.specs.Tags.{entry_tag_by, Prepared, KeysOf}
use Rattle.format.proofs.Tags.{entry_tag_is}

-- ---- as they are written

-- two numbers, 8 bytes each
pub plain_is : (to x y : List ℕ) (a n : ℕ) → length to ≡ 16 → length x ≡ 8 → x ≡ bytes (length (take 8 to)) a → y ≡ bytes (length (take 8 (drop 8 (back to 0 8 x)))) n
    → back (back to 0 8 x) 8 16 y ≡ number8 a ++ number8 n
unfolding number8
plain_is to x y a n l lx ex ey =
    let h : length (take 8 to) ≡ 8 = length_part to 0 8 (omega arith) in
    let lb : length (back to 0 8 x) ≡ 16 = length_back to 0 8 x (omega arith) (omega arith) (omega arith) ∙ l in
    let k : length (take 8 (drop 8 (back to 0 8 x))) ≡ 8 = length_part (back to 0 8 x) 8 16 (omega arith) in
    halves to x y 8 16 l lx ∙ ap₂ (λ (p q : List ℕ). p ++ q) (ex ∙ ap (λ (m : ℕ). bytes m a) h) (ey ∙ ap (λ (m : ℕ). bytes m n) k)

-- the scheme's row of C [01:ST9]
pub counted_row_is : (keys : Keys) (cl nonce tag plain row : List ℕ) (a n : ℕ) → KeysOf keys cl → plain ≡ number8 a ++ number8 n
    → row ≡ 1 ∷ tag ++ (nonce ++ E keys.ce nonce plain) → row ≡ counted_row program cl tag nonce a n
unfolding counted_row program
counted_row_is keys cl nonce tag plain row a n k ep er = let e = k.ce in er ∙ λ i. 1 ∷ tag ++ (nonce ++ E (e i) nonce (ep i))

-- the scheme's rows of M and V [01:ST6 ST8]
module _ (k : Keyed) (mt : List ℕ) (a : Address) (p : Prepared k mt) (tag : List ℕ) (e : tag ≡ entry_tag_by k a) where
  pub entry_row_is : (me nonce id : List ℕ) (row : Row) → row ≡ 1 ∷ tag ++ (nonce ++ E me nonce id) → row ≡ entry_row program mt me a.0 nonce id
  unfolding entry_row program
  entry_row_is me nonce id row f = f ∙ ap (λ (l : List ℕ). 1 ∷ l ++ (nonce ++ E me nonce id)) (e ∙ entry_tag_is k mt a p)

  pub reverse_row_is : (id : List ℕ) (row : Row) → row ≡ 1 ∷ id ++ tag → row ≡ reverse_row program mt a.0 id
  unfolding reverse_row
  reverse_row_is id row f = f ∙ ap (λ (l : List ℕ). 1 ∷ id ++ l) (e ∙ entry_tag_is k mt a p)

-- ---- nonce and ciphertext at a place

module _ (c i : ℕ) (t : List ℕ) (h : i < c) where
  -- of a row of M or C
  pub nonce_at : take (width_of table_m * i + 45 - (width_of table_m * i + 33)) (drop (width_of table_m * i + 33) t) ≡ take 12 (drop 32 (body (get_or (rows (width_of table_m) c t) i [])))
  nonce_at =
      ap (λ (k : ℕ). take k (drop (width_of table_m * i + 33) t)) (let e : width_of table_m * i + 45 - (width_of table_m * i + 33) ≡ 12 = omega arith in e)
      ∙ sym (field_at (width_of table_m) c i 33 12 t h (lit≤ tt)) ∙ ap (take 12) (sym (drop-drop 32 1 (get_or (rows (width_of table_m) c t) i [])))

  pub text_at : length t ≡ width_of table_m * c → take (width_of table_m * i + (width_of table_m) - (width_of table_m * i + 45)) (drop (width_of table_m * i + 45) t) ≡ drop 44 (body (get_or (rows (width_of table_m) c t) i []))
  text_at e =
      let row = get_or (rows (width_of table_m) c t) i [] in
      let l : length row ≡ width_of table_m = sym (ap length (row_part (width_of table_m) c i t h)) ∙ row_length (width_of table_m) c i t h e in
      ap (λ (k : ℕ). take k (drop (width_of table_m * i + 45) t)) (let e : width_of table_m * i + (width_of table_m) - (width_of table_m * i + 45) ≡ 16 = omega arith in e)
      ∙ sym (field_at (width_of table_m) c i 45 16 t h (lit≤ tt)) ∙ take_all 16 (drop 45 row) (omega (arith, length-drop 45 row)) ∙ sym (drop-drop 44 1 row)

-- of a row of S [01:ST12]
pub cl_opened : (ks t : List ℕ) (s i : ℕ) → i < s
    → E ks (take (width_of table_s * i + 13 - (width_of table_s * i + 1)) (drop (width_of table_s * i + 1) t)) (take (width_of table_s * i + width_of table_s - (width_of table_s * i + 13)) (drop (width_of table_s * i + 13) t)) ≡ cl_in program ks (body (get_or (rows (width_of table_s) s t) i []))
unfolding cl_in program
cl_opened ks t s i h =
    ap₂ (λ (n x : List ℕ). E ks n x)
    (ap (λ (k : ℕ). take k (drop (width_of table_s * i + 1) t)) (let e : width_of table_s * i + 13 - (width_of table_s * i + 1) ≡ 12 = omega arith in e) ∙ sym (body_field (width_of table_s) s i 0 12 t h (lit≤ tt)))
    (ap (λ (k : ℕ). take k (drop (width_of table_s * i + 13) t)) (let e : width_of table_s * i + width_of table_s - (width_of table_s * i + 13) ≡ 32 = omega arith in e) ∙ sym (body_tail (width_of table_s) s i 12 t h))
