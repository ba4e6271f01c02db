-- Queries are equal by their fields.
use Rattle.std.proofs.Common.{◌≡◌, ℕ}
use Rattle.std.proofs.Math.Bridge.{le_prop}
use Rattle.world_parts.specs.declared.held.Held.{Held}

-- whatever proof each has that its words are few
pub held_is : {W : ℕ} (a b : Held W) → a.ask ≡ b.ask → a.position ≡ b.position → a.front ≡ b.front → a.pins ≡ b.pins → a.gather ≡ b.gather
    → a.limit ≡ b.limit → a.cancelled ≡ b.cancelled → a.pinned.value ≡ b.pinned.value → a.gathered.value ≡ b.gathered.value → a ≡ b
held_is a b ask position front pins gather limit cancelled pinned gathered = λ i. record {
  ask = ask i;
  position = position i;
  front = front i;
  pins = pins i;
  gather = gather i;
  limit = limit i;
  cancelled = cancelled i;
  pinned = record a.pinned { value = pinned i };
  gathered = record a.gathered { value = gathered i };
  few_words = le_prop a.few_words b.few_words i;
}
