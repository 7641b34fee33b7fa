-- Bytes that were fetched, and the chunk that they are held against.
use Rattle.std.proofs.Common.{◌≡◌, ℕ, ◌<◌, Bool, false, Option, None, Some, IfSome, IsTrue, List, length, get_or, refl, sym, ap, subst, ◌∙◌, slice_get}
use Rattle.std.specs.Prelude.{Result, Ok, Err, OnOk, IfErr, is_err}
use Rattle.std.proofs.lemmas.Option.{same_Some, slice_get-get_or}
use Rattle.sha2.specs.Sha256.{sha256}
use Rattle.aff_model.specs.History.{Part}
use Rattle.aff_analyst.specs.Bytes.{IsFetched, IsToldAs}
use Rattle.aff_analyst.specs.Faults.{IsOtherChunk}

pub by_some : {R : Type 0} (o : Option R) (r : R) (P : R → Type 0) → o ≡ Some r → IfSome o P → P r
by_some None r P is h = cc
by_some (Some x) r P is h = subst P (same_Some x r is) h

-- a fact of the element, where there is one
pub to_some : {R : Type 0} (o : Option R) (r : R) (P : R → Type 0) → o ≡ Some r → P r → IfSome o P
to_some None r P is h = tt
to_some (Some x) r P is h = subst P (sym (same_Some x r is)) h

pub no_some : {R : Type 0} (o : Option R) (P : R → Type 0) → o ≡ None → IfSome o P
no_some None P is = tt
no_some (Some x) P is = cc

-- the digest of what a receipt tells is the recorded one
told_sum : {R : Type 0} (told : R → List ℕ) (p : Part R) (n : ℕ) (r : R) (recorded : List ℕ) → slice_get p.receipts n ≡ Some r → slice_get p.digests n ≡ Some recorded → IsToldAs told p n → recorded ≡ sha256 (told r)
told_sum told p n r recorded is sum h =
    let w = by_some (slice_get p.receipts n) r (λ x. (length (told x) ≡ 32768) × (slice_get p.digests n ≡ Some (sha256 (told x)))) is h in
    same_Some recorded (sha256 (told r)) (sym sum ∙ w.1)

-- what an answer that is no error says
pub on_ok : {T E : Type 0} (r : Result T E) (P : Type 0) → is_err r ≡ false → OnOk r P → P
on_ok (Ok x) P is h = h
on_ok (Err e) P is h = cc

-- what two clauses of an answer give together, and what the cause of an error gives
pub both_ok : {T E : Type 0} (r : Result T E) (P Q S : Type 0) → (P → Q → S) → OnOk r P → OnOk r Q → OnOk r S
both_ok (Ok x) P Q S f p q = f p q
both_ok (Err e) P Q S f p q = tt

pub on_err : {T E : Type 0} (r : Result T E) (P Q : E → Type 0) → ((e : E) → P e → Q e) → IfErr r P → IfErr r Q
on_err (Ok x) P Q f h = tt
on_err (Err e) P Q f h = f e h

pub other_chunk : (tells : Bool) {R : Type 0} (told : R → List ℕ) (p : Part R) (n : ℕ) (r : R) (recorded found bytes : List ℕ) → n < length p.receipts → n < length p.digests → r ≡ get_or p.receipts n r → recorded ≡ get_or p.digests n recorded
    → length bytes ≡ 32768 → found ≡ sha256 bytes → ¬ (found ≡ recorded) → (IsTrue tells → bytes ≡ told r) → (IsTrue tells → IsToldAs told p n) → IsOtherChunk tells p n recorded found
other_chunk tells told p n r recorded found bytes low below is sum len digest differs fetched h =
    let at : slice_get p.receipts n ≡ Some r = slice_get-get_or p.receipts n r low ∙ ap Some (sym is) in
    let of : slice_get p.digests n ≡ Some recorded = slice_get-get_or p.digests n recorded below ∙ ap Some (sym sum) in
    record {
      untold = λ t. differs (digest ∙ ap sha256 (fetched t) ∙ sym (told_sum told p n r recorded at of (h t)));
      digest = of;
      bytes = bytes;
      len = len;
      sum = digest;
      differs = differs;
    }

pub fetched_chunk : (tells : Bool) {R : Type 0} (told : R → List ℕ) (p : Part R) (n : ℕ) (r : R) (recorded found bytes : List ℕ) → n < length p.receipts → n < length p.digests → r ≡ get_or p.receipts n r → recorded ≡ get_or p.digests n recorded
    → length bytes ≡ 32768 → found ≡ sha256 bytes → found ≡ recorded → (IsTrue tells → bytes ≡ told r) → IsFetched tells told p n bytes
fetched_chunk tells told p n r recorded found bytes low below is sum len digest same fetched =
    let at : slice_get p.receipts n ≡ Some r = slice_get-get_or p.receipts n r low ∙ ap Some (sym is) in
    let of : slice_get p.digests n ≡ Some recorded = slice_get-get_or p.digests n recorded below ∙ ap Some (sym sum) in
    record {
      len = len;
      digest = of ∙ ap Some (sym same ∙ digest);
      told_bytes = λ t. to_some (slice_get p.receipts n) r (λ x. told x ≡ bytes) at (sym (fetched t));
    }
