-- What a request that was read asks: it keeps its code with zeros after the code's own bits.
use Rattle.std.specs.Prelude.{◌≡◌, ℕ, ◌<◌, ◌≤◌, take, Option, Some, None, Result, Ok, Err}
use Rattle.hamming_model.specs.Codes.{StandsFor}
use Rattle.exchange_model.specs.declared.limits.TheConstants.{ROUNDS_MOST}
use Rattle.query_protocol.specs.Requests.{LineRequest, LineReading, Add, Del, Get, Range, Near}
use Rattle.query_protocol.specs.Requests.{Next, Cost, Plan, Cancel, Layout, Repart, Build, Swap}
use Rattle.query_protocol.specs.Requests.{Search, Quit}
use Rattle.part_layout.specs.Laid.{Laid, IsLaid}
use Rattle.query_protocol.specs.declared.bad.Bad.{Bad}
use Rattle.query_protocol.specs.declared.bad.LineFault.{LineFault}
use Rattle.query_protocol.specs.declared.bad.LineFault.TheVariants as line
use Rattle.query_protocol.specs.declared.request.Request.{Request}
use Rattle.query_protocol.specs.declared.request.Request.TheVariants as kept

-- what a request asks, its code cut to so many bits
abbrev pub unstored : {W : ℕ} → ℕ → Request W → LineRequest
unstored bits (kept.Add key stored) = Add key (take bits stored)
unstored bits (kept.Del key) = Del key
unstored bits (kept.Get key) = Get key
unstored bits (kept.Range tag tau stored) = Range tag tau (take bits stored)
unstored bits (kept.Near tag k stored) = Near tag k (take bits stored)
unstored bits (kept.Next tag n) = Next tag n
unstored bits (kept.Cost tag) = Cost tag
unstored bits (kept.Plan tag shard) = Plan tag shard
unstored bits (kept.Cancel tag) = Cancel tag
unstored bits (kept.Layout shard) = Layout shard
unstored bits (kept.Repart shard layout) = Repart shard layout.parts
unstored bits (kept.Build n) = Build n
unstored bits kept.Swap = Swap
unstored bits (kept.Search shard rounds) = Search shard rounds
unstored bits kept.Quit = Quit

-- a reading with its code so
abbrev pub unstored_reading : {W : ℕ} → ℕ → Result (Option (Request W)) Bad → LineReading
unstored_reading bits (Ok None) = Ok None
unstored_reading bits (Ok (Some request)) = Ok (Some (unstored bits request))
unstored_reading bits (Err fault) = Err fault

-- a layout is one of so many bits
pub record IsLaidFor (bits : ℕ) (layout : Laid) : Type 0 where
  pub laid : IsLaid layout
  pub bits_are : layout.bits ≡ bits

-- a search has some rounds, and not too many
pub record AreRounds (rounds : ℕ) : Type 0 where
  pub some : 1 ≤ rounds
  pub few : rounds ≤ ROUNDS_MOST

-- a request's code stands for one of so many bits, its radius is at most that, its layout is one of
-- so many bits, and its rounds are those of a search
abbrev pub IsFit : (W bits : ℕ) → Request W → Type 0
IsFit W bits (kept.Add key stored) = StandsFor W bits stored (take bits stored)
IsFit W bits (kept.Range tag tau stored) = StandsFor W bits stored (take bits stored) × (tau ≤ bits)
IsFit W bits (kept.Near tag k stored) = StandsFor W bits stored (take bits stored)
IsFit W bits (kept.Repart shard layout) = IsLaidFor bits layout
IsFit W bits (kept.Search shard rounds) = AreRounds rounds
IsFit W bits other = Unit {0}

-- what is asked is fit, where anything is
abbrev pub IsFitReading : {E : Type 0} → (W bits : ℕ) → Result (Option (Request W)) E → Type 0
IsFitReading W bits (Ok (Some request)) = IsFit W bits request
IsFitReading W bits other = Unit {0}

-- the shard that a request names is one of so many
abbrev pub NamesOneOf : {W : ℕ} → ℕ → Request W → Type 0
NamesOneOf shards (kept.Plan tag shard) = shard < shards
NamesOneOf shards (kept.Layout shard) = shard < shards
NamesOneOf shards (kept.Repart shard layout) = shard < shards
NamesOneOf shards (kept.Search shard rounds) = shard < shards
NamesOneOf shards other = Unit {0}

-- so is that of what was read, where that is a request
abbrev pub NamesShard : {W : ℕ} {E : Type 0} → ℕ → Result (Option (Request W)) E → Type 0
NamesShard shards (Ok (Some request)) = NamesOneOf shards request
NamesShard shards other = Unit {0}

-- what is given is what a line asks, and its code is kept as such codes are
pub record ReadsAs
    (W bits : ℕ) (given : Result (Option (Request W)) Bad) (line : LineReading)
    : Type 0 where
  pub asked : unstored_reading bits given ≡ line
  pub fit : IsFitReading W bits given

-- a line asks for a build
abbrev pub AsksBuild : LineReading → Type 0
AsksBuild (Ok (Some (Repart shard layout))) = Unit {0}
AsksBuild other = ⊥

-- what is given is what a line asks, but where there was no memory for the layout of a build that
-- it asks for
abbrev pub ReadsLine
    : (W bits : ℕ) → Result (Option (Request W)) LineFault → LineReading → Type 0
ReadsLine W bits (Ok asked) reading = ReadsAs W bits (Ok asked) reading
ReadsLine W bits (Err (line.Bad fault)) reading = ReadsAs W bits (Err fault) reading
ReadsLine W bits (Err line.NoMemory) reading = AsksBuild reading
