-- Words of the contracts on the table in work and on widened rows.
pub mod UnionIds
pub mod Table
