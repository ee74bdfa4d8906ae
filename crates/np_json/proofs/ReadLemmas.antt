-- What a reader answered, and what that says of the value. For crates above.
use Rattle.std.proofs.Common.{ℕ, List, Bool, true, refl, ◌≡◌, Ok, Err, ◌^◌, ◌≤◌, arith, le-leb, lt-ltb, ◌&&◌}
use Rattle.serde_json.specs.Data.{string, number, unsigned}
use Rattle.np_model.specs.Prelude.{is_name}
use Rattle.np_json.specs.Prelude.{NamespacedName, Read, Step, name, port, refuse_if, under}

-- what is read under a step was read
pub under-output : {A : Type 0} (step : Step) (read : Read A) (output : A) → under step read ≡ Ok output → read ≡ Ok output
unfolding under
under-output step (Ok other) output is = is
under-output step (Err flaw) output is = cc

-- a name is read of its text
pub name-read : (s : List ℕ) → is_name s ≡ true → name (string s) ≡ Ok s
unfolding name refuse_if
name-read s is = rw is refl

-- a port is read of its number
pub port-read : (n : ℕ) → 1 ≤ n → n ≤ 65535 → port (number (unsigned n)) ≡ Ok n
unfolding port
port-read n least most = rw (lt-ltb n (2 ^ 63) (omega arith), le-leb 1 n least, le-leb n 65535 most) refl

-- a name in a namespace, both well formed
abbrev pub is_well_own : NamespacedName → Bool
is_well_own own = is_name own.namespace && is_name own.name
