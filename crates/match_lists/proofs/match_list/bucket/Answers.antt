use Rattle.std.proofs.Common.{refl}
use Rattle.match_lists.specs.Buckets.{bucket_of}
use Rattle.match_lists.proofs.BucketLemmas.{bucket-le}
use Rattle.match_lists.proofs.match_list.bucket.Goals as goal

pub returns-clause-bucket : goal.returns-clause-bucket
unfolding bucket_of
returns-clause-bucket c = refl

pub returns-clause-below : goal.returns-clause-below
unfolding bucket_of
returns-clause-below c = bucket-le c.args.buckets c.args.bits
