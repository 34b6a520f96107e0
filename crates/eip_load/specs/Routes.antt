-- The routes of a load test.
use Rattle.std.specs.Prelude.{ℕ, List, ◌++◌, codes, decimal}

-- the text of their route file, with the number of items
abbrev pub load_text : ℕ → List ℕ
load_text n =
    codes "[{\"route\":{\"id\":\"in\",\"from\":{\"uri\":\"load:"
    ++ (decimal n
    ++ codes "\",\"steps\":[{\"idempotentConsumer\":{\"simple\":\"${header.order}\",\"steps\":[{\"to\":\"seda:work\"}]}}]}}},{\"route\":{\"id\":\"work\",\"from\":{\"uri\":\"seda:work?size=20000&concurrentConsumers=16\",\"steps\":[{\"process\":{\"ref\":\"keep\"}},{\"aggregate\":{\"correlationExpression\":{\"simple\":\"${header.customer}\"},\"completionSize\":3,\"forceCompletionOnStop\":true,\"aggregationStrategy\":\"sum\",\"steps\":[{\"to\":\"log:batch\"}]}}]}}}]")
