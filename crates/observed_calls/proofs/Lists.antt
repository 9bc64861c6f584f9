-- A list of calls and readings, played in one call: from the statement of `catalog_play`, what its caller's runs hold then.
use contract.Monad.{fact_mono}
use Rattle.call_lists.proofs.DemandThree.{list_kept, list_claim}
use Rattle.observed_calls.specs.Seen.{words_in, besides}
use Rattle.observed_calls.specs.Played.{ListPlayed}
use Rattle.observed_calls.proofs.Contracts.{Fact, Ensuring, follows}
use Rattle.catalog_player.specs.contracts.session.catalog_play as play
use Rattle.catalog_player.proofs.session.catalog_play.Statement as play_stated
use Rattle.catalog_player.proofs.session.catalog_play.Met as play_met
use Rattle.catalog_player.proofs.session.catalog_play.Symbol as play_symbol

-- `catalog_play`
abbrev pub PlayEnters : Fact play.ended
PlayEnters κs a r s =
    let (counts, (calls, (lists, (names, (area, (told, end)))))) = besides a in
    let (counts', (calls', (lists', (names', (area_left, (told_left, end')))))) = besides s in
    ListPlayed calls.now lists.now names.now (words_in a) counts area.now told.now r (words_in s) area_left.now told_left.now

pub play_enters : {M : Type 1} → Ensuring {M = M} play.ended (λ 𝓤 𝓛. play.clauses 𝓛) play_symbol.code play_symbol.name PlayEnters
play_enters {M} =
    let met : play_stated.statement M = play_met.met in
    follows play.ended (λ 𝓤 𝓛. play.clauses 𝓛) play_symbol.code play_symbol.name PlayEnters
    (λ 𝓤 𝓛 mem run κs a g r s. fact_mono 𝓤 _ _ (λ p. record { promise = p; kept = list_kept _ _ _ _ _ _ _ p; claim = list_claim _ _ _ _ _ _ _ p })) met
