use Rattle.book_check.proofs.CheckLaws.{listing_judged, script_failed}
use Rattle.book_check.proofs.check.check_book.Goals as goal

pub returns-in-Ok : goal.returns-in-Ok
returns-in-Ok c = listing_judged _ _ _ _ c.split_input-input.ensures.script c.split_input-input.ensures.listing
    c.split_input-input.ensures.first c.in-Ok.script c.judge_listing.result c.in-Ok.ensures c.judge_listing.ensures

pub returns-in-Err : goal.returns-in-Err
returns-in-Err c = script_failed _ _ _ _ c.split_input-input.ensures.script c.split_input-input.ensures.listing
    c.split_input-input.ensures.first c.in-Err.fault c.of_script.result c.in-Err.ensures c.of_script.ensures
