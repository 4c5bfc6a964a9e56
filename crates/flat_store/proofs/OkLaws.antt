-- What follows from a fact on success.
use Rattle.flat_store.proofs.Prelude.{◌≡◌, true, Result, Ok, Err, OnOk, is_ok}

pub ok_of : {T E : Type 0} (r : Result T E) (P : Type 0) → OnOk r P → is_ok r ≡ true → P
ok_of (Ok x) P h e = h
ok_of (Err x) P h e = cc
