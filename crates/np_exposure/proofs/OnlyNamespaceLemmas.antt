-- Strangers that peers match which speak of one namespace by its name. For `AskedRule::reaches`.
use Rattle.std.proofs.Common.{◌≡◌, ℕ, List, Bool, true, false, refl, sym, ◌∙◌}
use Rattle.std.specs.Str.{bytes_eq}
use Rattle.std.specs.Cmp.Lexicographic.{bytes_decides}
use Rattle.std.proofs.lemmas.Bool.{false≢true}
use Rattle.np_exposure.specs.Prelude.{AreOfNamespace, RuleConns, Stranger}
use Rattle.np_rules.specs.Prelude.{kept_reaches, pod, stranger_end}

-- they match no stranger of another namespace
pub is-elsewhere : (kept : RuleConns) (name own namespace : List ℕ) (s : Stranger) → AreOfNamespace name kept.rule.now.peers → own ≡ (stranger_end s).namespace → bytes_eq name own ≡ false
    → false ≡ kept_reaches namespace (pod (stranger_end s)) kept
is-elsewhere kept name own namespace s needs is differ = by (kept_reaches namespace (pod (stranger_end s)) kept) refl
  where
    by : (b : Bool) → kept_reaches namespace (pod (stranger_end s)) kept ≡ b → false ≡ b
    by false reaches = refl
    by true reaches = absurd (false≢true (sym differ ∙ (bytes_decides name own).1 (sym (needs namespace s reaches) ∙ sym is)))
